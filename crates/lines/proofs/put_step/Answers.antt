-- `lines::put_step` meets its contract. The writes in a row; the answer's number or both its values have one digit.
use Rattle.std.proofs.Common.{arith, ◌+◌, ◌≤◌, inl, inr, append_assoc}
use Rattle.text.specs.Text.{fields_of, line_of}
use Rattle.text.proofs.Laws.{digits_length, writes_then}
use Rattle.lines.proofs.OneDigit.{one_digit}
use Rattle.lines.proofs.put_step.Given.{Over}
use Rattle.lines.proofs.put_step.Goals as goal
use Rattle.lines.proofs.put_step.Goals.{After-field, After-field-4}

-- the place after the index
first : (g : Over) (c : After-field g) → c.field.new.self.at ≤ c.args.w.now.at + 10
first g c = omega (arith, c.text.ensures.wrote.place, c.field.ensures.wrote.wrote.place, digits_length 4 c.args.i c.requires.0)

-- the place before the line feed
near : (g : Over) (c : After-field-4 g) → c.field-4.new.self.at ≤ c.args.w.now.at + 34
near g c =
    let text = c.text.ensures.wrote.place in
    let index = c.field.ensures.wrote.wrote.place in
    let few = digits_length 4 c.args.i c.requires.0 in
    elim (rw (← c.from-n.ensures) at (one_digit g.R.Numbered.listed_number c.args.a)) [
      | inl h ↦ omega (arith, c.field-2.ensures.wrote.wrote.place, c.field-3.ensures.upper_bound, c.field-4.ensures.upper_bound)
      | inr h ↦ omega (arith, c.field-2.ensures.upper_bound, c.field-3.ensures.wrote.wrote.place, c.field-4.ensures.wrote.wrote.place)
    ]

pub field-requires-3 : goal.field-requires-3
field-requires-3 g c = omega (arith, c.requires, first g (goal.at.field-requires-3 g c).After-field, c.field-2.ensures.upper_bound)

pub field-requires-4 : goal.field-requires-4
field-requires-4 g c =
    let index = first g (goal.at.field-requires-4 g c).After-field in
    elim (rw (← c.from-n.ensures) at (one_digit g.R.Numbered.listed_number c.args.a)) [
      | inl h ↦ omega (arith, c.requires, c.field-2.ensures.wrote.wrote.place, c.field-3.ensures.upper_bound)
      | inr h ↦ omega (arith, c.requires, c.field-2.ensures.upper_bound, c.field-3.ensures.wrote.wrote.place)
    ]

pub byte-requires : goal.byte-requires
byte-requires g c = omega (arith, c.requires, near g (goal.at.byte-requires g c).After-field-4)

pub returns-clause-wrote : goal.returns-clause-wrote
unfolding line_of fields_of
returns-clause-wrote g c =
    let index = writes_then c.text.ensures c.field.ensures.wrote in
    let code = writes_then index c.field-2.ensures.wrote in
    let numbers = writes_then (writes_then code c.field-3.ensures.wrote) c.field-4.ensures.wrote in
    rw (← c.from-n.ensures) (simp append_assoc at (writes_then numbers c.byte.ensures))

pub returns-clause-upper_bound : goal.returns-clause-upper_bound
returns-clause-upper_bound g c = omega (arith, c.byte.ensures.wrote.place, near g (goal.at.returns-clause-upper_bound g c).After-field-4)
