-- `text::put_field` meets its contract. A space, then the digits.
use Rattle.text.proofs.Laws.{then}
use Rattle.text.proofs.put_field.Goals as goal

pub returns-clause-wrote : goal.returns-clause-wrote
returns-clause-wrote c = then c.put_byte-next.ensures c.put_number.ensures.wrote
