-- It computes: three writers of one key at places 1 to 3, of which the second is not of the set.
use Rattle.std.specs.Prelude.{true, not, ◌≡◌, refl, ◌+◌, ◌-◌, eqb}
use Rattle.onecopy.specs.Copy.{Table, Order, one_copy, run, chosen}

abbrev table : Table
table = record {
  sites = 1;
  holds = λ s k. true;
  concerns = λ s t. true;
  reads = λ t k. true;
  writes = λ t k. true;
  gives = λ t k. 10 + t;
  first = λ k. 5;
}

abbrev order : Order
order = record { place = λ t. t + 1; at = λ p. p - 1 }

before_the_third : one_copy table order (λ t. not (eqb t 1)) 3 0 ≡ (2, 10)
unfolding run chosen
before_the_third = refl

at_the_end : one_copy table order (λ t. not (eqb t 1)) 4 0 ≡ (3, 12)
unfolding run chosen
at_the_end = refl
