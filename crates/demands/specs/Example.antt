-- It computes: case A, its tables taken by the reader, its single copy at the end and its sum.
use Rattle.std.specs.Prelude.{ℕ, List, [], ◌∷◌, ◌++◌, ◌≡◌, refl, replicate, Ok, Err}
use Rattle.queues.specs.Queue.{head_in, blocked_in, next_in, submitted_in}
use Rattle.bounded.specs.Bounded.{any_below, all_below, sum_below, first_below, first_of, list_from}
use Rattle.keys.specs.Keys.{member, within, adding}
use Rattle.tables.specs.Empty.{empty_txn, no_tables}
use Rattle.tables.specs.Lists.{in_row, twice, present, meets, conflict_in}
use Rattle.tables.specs.Sites.{no_group, keys_from}
use Rattle.tables.specs.Concern.{some_in, all_in, touches, inside, local}
use Rattle.tables.specs.Judge.{keys_refusal, size_refusal, count_refusal, key_refusal, txn_refusal, some_group, end_refusal, judge}
use Rattle.tables.specs.declared.Tables.{Tables}
use Rattle.steps.specs.Kinds.{version, place}
use Rattle.steps.specs.declared.Answer.TheVariants as answer
use Rattle.steps.specs.declared.Step.{Step}
use Rattle.steps.specs.declared.Step.TheVariants.{Read, Submit, Deliver, Settle}
use Rattle.rules.specs.Votes.{certify_in, covers_key, covered_in, all_yes_in, verdict_by, room_in}
use Rattle.rules.specs.Fit.{counts_fit, row_fits, txn_fits, txns_fit, places_fit}
use Rattle.refusals.specs.Refusals.{carry_refusal_in, close_refusal_in, deliver_refusal_in, read_refusal_in, submit_refusal_in, verdict_refusal_in, vote_refusal_in, refusal_in}
use Rattle.search.specs.Search.{closes_first_in, first_carried_in, first_closing_in, first_delivering_in, first_from_in, first_to_in, todo_in}
use Rattle.machine.specs.Usable.{usable}
use Rattle.machine.specs.Effects.{read_done, submit_done, deliver_done, carry_done, committed, close_done}
use Rattle.effects.specs.Stored.{stored}
use Rattle.numbers.specs.Numbers.{file_refusal, step_refusal}
use Rattle.numbers.specs.declared.StepRefusal.TheVariants.{Conflict}
use Rattle.machine.specs.Settle.{settle_for, settle_done}
use Rattle.machine.specs.Steps.{done, decided, step_of}
use Rattle.machine.specs.Fresh.{start_of, fresh_of}
use Rattle.listing.specs.Run.{end_of, answers_of}
use Rattle.onecopy.specs.Copy.{run, chosen}
use Rattle.demands.specs.View.{slot, whose_in, copy_of}
use Rattle.demands.specs.Settle.{steps_on, done_on, steps_in_all, steps_done, steps_taken}

-- site 0 holds key 0, site 1 key 1; t0 reads 0 and writes 7 to 1, t1 reads 1 and writes 9 to 0
abbrev tables : Tables
tables = record {
  keys = 2;
  first = 100 ∷ 200 ∷ replicate 62 0;
  groups = 2;
  group = record { sites = 1; keys = 1 } ∷ record { sites = 1; keys = 2 } ∷ replicate 6 no_group;
  txns = 2;
  txn =
      record { reads = record { count = 1; keys = replicate 8 0 }; writes = record { count = 1; keys = 1 ∷ replicate 7 0 }; values = 7 ∷ replicate 7 0 }
      ∷ record { reads = record { count = 1; keys = 1 ∷ replicate 7 0 }; writes = record { count = 1; keys = replicate 8 0 }; values = 9 ∷ replicate 7 0 }
      ∷ replicate 126 empty_txn;
}

abbrev steps : List Step
steps = Read 0 0 0 ∷ Read 1 0 1 ∷ Submit 0 ∷ Submit 1 ∷ Deliver 0 ∷ Deliver 0 ∷ Settle ∷ []

-- the reader takes these tables
taken : judge tables ≡ 0
unfolding keys_refusal size_refusal count_refusal key_refusal txn_refusal some_group end_refusal judge in_row twice present member within any_below all_below sum_below first_of
taken = refl

-- t0 commits and t1 aborts: key 1 has version 2 with value 7, key 0 is as it was; ten steps in all, all done
at_the_end : let st = end_of (fresh_of tables).state steps in
    ◌≡◌ {A = List ℕ}
    ((copy_of st 3 0).0 ∷ (copy_of st 3 0).1 ∷ (copy_of st 3 1).0 ∷ (copy_of st 3 1).1 ∷ steps_in_all st ∷ steps_done st ∷ steps_taken (fresh_of tables).state steps ∷ [])
    (1 ∷ 100 ∷ 2 ∷ 7 ∷ 10 ∷ 10 ∷ 10 ∷ [])
unfolding end_of steps_on done_on steps_taken slot whose_in run chosen
    fresh_of start_of file_refusal step_refusal done decided step_of first_closing_in closes_first_in first_delivering_in first_carried_in first_from_in first_to_in todo_in settle_for settle_done read_done submit_done deliver_done carry_done stored committed close_done
    read_refusal_in submit_refusal_in deliver_refusal_in vote_refusal_in carry_refusal_in verdict_refusal_in close_refusal_in refusal_in counts_fit row_fits txn_fits txns_fit places_fit usable head_in blocked_in next_in submitted_in certify_in covers_key covered_in all_yes_in verdict_by room_in
    in_row twice present meets conflict_in some_in all_in touches inside local keys_from keys_refusal size_refusal count_refusal key_refusal txn_refusal some_group end_refusal judge no_tables
    member within adding any_below all_below sum_below first_below first_of list_from
at_the_end = refl

-- the steps one by one: it accepts, answers differently, goes on after its first step, and the second DELIVER meets a changed state
answered : answers_of (fresh_of tables).state steps
    ≡ Ok (answer.Read (version 1) 100) ∷ Ok (answer.Read (version 1) 200) ∷ Ok (answer.Submitted (place 1)) ∷ Ok (answer.Submitted (place 2)) ∷ Ok (answer.Delivered 0 1) ∷ Err Conflict ∷ Ok (answer.Settled 9) ∷ []
unfolding answers_of
    fresh_of start_of file_refusal step_refusal done decided step_of first_closing_in closes_first_in first_delivering_in first_carried_in first_from_in first_to_in todo_in settle_for settle_done read_done submit_done deliver_done carry_done stored committed close_done
    read_refusal_in submit_refusal_in deliver_refusal_in vote_refusal_in carry_refusal_in verdict_refusal_in close_refusal_in refusal_in counts_fit row_fits txn_fits txns_fit places_fit usable head_in blocked_in next_in submitted_in certify_in covers_key covered_in all_yes_in verdict_by room_in
    in_row twice present meets conflict_in some_in all_in touches inside local keys_from keys_refusal size_refusal count_refusal key_refusal txn_refusal some_group end_refusal judge no_tables
    member within adding any_below all_below sum_below first_below first_of list_from
answered = refl
