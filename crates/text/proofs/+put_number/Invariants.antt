-- `text::put_number` meets its contract. One digit, or the digits of n / 10 and one more after them; the measure is n.
use Rattle.text.proofs.+put_number.Given as goal

abbrev pub decreases-put_number : goal.decreases-put_number
decreases-put_number l = l.n
