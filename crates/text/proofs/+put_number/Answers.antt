use Rattle.std.proofs.Common.{arith, rules, ◌/◌}
use Rattle.text.proofs.Laws.{digits_length, write_one, write_more, write_short}
use Rattle.text.proofs.+put_number.Goals as goal

pub returns-then-n-lt10-clause-wrote : goal.returns-then-n-lt10-clause-wrote
returns-then-n-lt10-clause-wrote t c = write_one (omega arith) c.digit.ensures c.put_byte.ensures

pub put_byte-requires-2 : goal.put_byte-requires-2
put_byte-requires-2 t c = omega (arith, digits_length 8 (c.args.n / 10) (search rules))

pub returns-clause-wrote : goal.returns-clause-wrote
returns-clause-wrote t c = write_more (omega arith) c.put_number-next.ensures.wrote c.digit-2.ensures c.put_byte-2.ensures

pub returns-clause-upper_bound : goal.returns-clause-upper_bound
returns-clause-upper_bound t c =
    write_short c.ranges.n.fits (write_more (omega arith) c.put_number-next.ensures.wrote c.digit-2.ensures c.put_byte-2.ensures)
