-- Cases A to K: one list, one claim.
use Rattle.files.specs.declared.Where.{Where}
use Rattle.std.specs.Prelude.{ℕ, Bool, true, false, ◌&&◌, List, [], ◌∷◌, ◌≡◌, refl, eqb, take, drop, Ok, Err}
use Prim.Native.String.{String}
use Rattle.files.specs.Walk.{walk}
use Rattle.files.specs.Cut.{cut_turn, cut_of}
use Rattle.files.specs.Setup.{allowed, taken, ended, turn_of, setup_turn, read_from}
use Rattle.files.specs.Schedule.{in_schedule, schedule_turn, read_schedule, step_by, steps_from, steps_of}
use Rattle.files.specs.Rows.{with_keys, with_group, with_txn}
use Rattle.files.specs.File.{file_of}
use Rattle.files.specs.declared.Reading.{Reading}
use Rattle.queues.specs.Queue.{head_in, blocked_in, next_in, submitted_in}
use Rattle.lines.specs.Lines.{step_lines, verdict_in, item_lines, state_lines}
use Rattle.bounded.specs.Bounded.{any_below, all_below, sum_below, first_below, first_of, list_from}
use Rattle.keys.specs.Keys.{member, within, adding}
use Rattle.tables.specs.Empty.{no_tables}
use Rattle.tables.specs.Lists.{in_row, twice, present, meets, conflict_in}
use Rattle.tables.specs.Sites.{site_count, keys_from}
use Rattle.tables.specs.Concern.{some_in, all_in, touches, inside, local}
use Rattle.tables.specs.Judge.{keys_refusal, size_refusal, count_refusal, key_refusal, txn_refusal, some_group, end_refusal, judge}
use Rattle.machine.specs.Parts.{closed_at}
use Rattle.rules.specs.Votes.{certify_in, covers_key, covered_in, all_yes_in, verdict_by, room_in}
use Rattle.rules.specs.Fit.{counts_fit, row_fits, txn_fits, txns_fit, places_fit}
use Rattle.machine.specs.Usable.{usable}
use Rattle.refusals.specs.Refusals.{read_refusal_in, submit_refusal_in, deliver_refusal_in, vote_refusal_in, carry_refusal_in, verdict_refusal_in, close_refusal_in, refusal_in}
use Rattle.search.specs.Search.{first_closing_in, closes_first_in, first_delivering_in, first_carried_in, first_from_in, first_to_in, todo_in}
use Rattle.machine.specs.Effects.{read_done, submit_done, deliver_done, carry_done, committed, close_done}
use Rattle.effects.specs.Stored.{stored}
use Rattle.numbers.specs.Numbers.{file_refusal, step_refusal}
use Rattle.machine.specs.Settle.{settle_for, settle_done}
use Rattle.machine.specs.Steps.{done, decided, step_of}
use Rattle.machine.specs.Fresh as Fresh
use Rattle.machine.specs.declared.State.{State}
use Rattle.machine.specs.Fresh.{fresh_of}
use Rattle.records.specs.Number.{number, row_of}
use Rattle.records.specs.Record.{record_at}
use Rattle.records.specs.Rule.{rule_of, values_fit, pairs_fit, fits}
use Rattle.records.specs.Judge.{judge_at}
use Rattle.text.specs.Text.{digits_by, digits_of, fields_of, line_of, each}
use Rattle.listing.specs.Run.{end_of, answers_of}
use Rattle.listing.specs.Listing.{lines_of, listing_of, printed}
use Rattle.cases.specs.Written.{text, hex, hex_from}

-- a file, its whole listing, and of each transaction the verdict at each site (0 open, 1 commit, 2 abort)
pub record Case : Type 0 where
  pub file : String
  pub gives : String
  pub closed : List (List ℕ)

same : List ℕ → List ℕ → Bool
same [] [] = true
same [] (y ∷ l) = false
same (x ∷ k) [] = false
same (x ∷ k) (y ∷ l) = eqb x y && same k l

sames : List (List ℕ) → List (List ℕ) → Bool
sames [] [] = true
sames [] (y ∷ l) = false
sames (x ∷ k) [] = false
sames (x ∷ k) (y ∷ l) = same x y && sames k l

verdicts : State → List (List ℕ)
verdicts st = list_from 0 st.tables.txns (λ t. list_from 0 (site_count st.tables) (closed_at st t))

-- of a file that is run, the verdicts at its end; of a refused one, none
closed_by : List ℕ → Reading Where → List (List ℕ)
closed_by schedule f = elim f.outcome [ Ok _ ↦ verdicts (end_of (fresh_of f.tables).state (steps_of schedule)) | Err _ ↦ [] ]

closed_of : List ℕ → List (List ℕ)
closed_of file = let c = cut_of file in closed_by (drop c file) (file_of (take c file) (drop c file))

gives_it : List ℕ → Case → Bool
gives_it file c = same (printed (listing_of file)) (text c.gives) && sames (closed_of file) c.closed

pub each_gives : List Case → Bool
each_gives [] = true
each_gives (c ∷ l) = gives_it (hex c.file) c && each_gives l

pub cases : List Case
cases =
    -- A: certifying waits for a conflicting one in the queue
    record {
      file = "01000800000064000000C8 020009010000000000000001 020009010000000000000002 0300080100010100000007 0300080101010000000009 0F0000 100003000000 100003010001 11000100 11000101 12000100 12000100 150000";
      gives = "STEP 0 0 1 100\nSTEP 1 0 1 200\nSTEP 2 0 1 0\nSTEP 3 0 2 0\nSTEP 4 0 0 1\nSTEP 5 27 0 0\nSTEP 6 0 9 0\nTXN 0 1 1\nTXN 1 2 2\nITEM 0 0 1 100\nITEM 1 1 2 7\n";
      closed = (1 ∷ 1 ∷ []) ∷ (2 ∷ 2 ∷ []) ∷ [];
    }
    -- B: an empty file
    ∷ record {
      file = "";
      gives = "FILE 2 0\n";
      closed = [];
    }
    -- C: KEYS without a key
    ∷ record {
      file = "010000";
      gives = "FILE 4 0\n";
      closed = [];
    }
    -- D: END before any GROUP
    ∷ record {
      file = "010004000000000F0000";
      gives = "FILE 3 7\n";
      closed = [];
    }
    -- E: one key, a group with mask 2
    ∷ record {
      file = "01000400000000 020009010000000000000002";
      gives = "FILE 5 7\n";
      closed = [];
    }
    -- F: two keys, one group with mask 1, END
    ∷ record {
      file = "0100080000000000000000 020009010000000000000001 0F0000";
      gives = "FILE 7 23\n";
      closed = [];
    }
    -- G: document 002; t0 aborts and t1 commits at all three sites
    ∷ record {
      file = "01000C0000000A000000140000001E 020009010000000000000003 020009010000000000000006 020009010000000000000005 03000D010002000000000B0100000015 03000D010002000000000C020000001F 0F0000 100003000000 100003010002 11000101 11000100 150000";
      gives = "STEP 0 0 1 10\nSTEP 1 0 1 10\nSTEP 2 0 1 0\nSTEP 3 0 2 0\nSTEP 4 0 20 0\nTXN 0 2 2\nTXN 1 1 1\nITEM 0 0 2 12\nITEM 0 1 1 20\nITEM 1 1 1 20\nITEM 1 2 2 31\nITEM 2 0 2 12\nITEM 2 2 2 31\n";
      closed = (2 ∷ 2 ∷ 2 ∷ []) ∷ (1 ∷ 1 ∷ 1 ∷ []) ∷ [];
    }
    -- H: the second of two blind writes is not at the head
    ∷ record {
      file = "01000400000005 020009010000000000000001 03000700010000000006 03000700010000000007 0F0000 11000100 11000101 12000100 12000100 1400020100";
      gives = "STEP 0 0 1 0\nSTEP 1 0 2 0\nSTEP 2 0 0 0\nSTEP 3 0 1 0\nSTEP 4 31 0 0\nTXN 0 1 0\nTXN 1 2 0\nITEM 0 0 1 5\n";
      closed = (0 ∷ []) ∷ (0 ∷ []) ∷ [];
    }
    -- I: an abort closes anywhere, while t0 before it waits for a vote
    ∷ record {
      file = "01000C0000000A000000140000001E 020009010000000000000005 020009010000000000000002 030008010101000000000B 030003010200 0300070001020000001F 0F0000 100003010000 11000102 12000100 1400020200 100003000001 11000100 11000101 12000100 12000100 1400020100 1400020000";
      gives = "STEP 0 0 1 30\nSTEP 1 0 1 0\nSTEP 2 0 2 0\nSTEP 3 0 1 0\nSTEP 4 0 1 20\nSTEP 5 0 2 0\nSTEP 6 0 3 0\nSTEP 7 0 0 0\nSTEP 8 0 1 2\nSTEP 9 0 2 0\nSTEP 10 30 0 0\nTXN 0 2 0\nTXN 1 3 2\nTXN 2 1 1\nITEM 0 0 1 10\nITEM 0 2 2 31\nITEM 1 1 1 20\n";
      closed = (0 ∷ 0 ∷ []) ∷ (2 ∷ 0 ∷ []) ∷ (1 ∷ 0 ∷ []) ∷ [];
    }
    -- J: a second SUBMIT
    ∷ record {
      file = "01000400000005 020009010000000000000001 03000700010000000006 0F0000 11000100 11000100";
      gives = "STEP 0 0 1 0\nSTEP 1 24 0 0\nTXN 0 1 0\nITEM 0 0 1 5\n";
      closed = (0 ∷ []) ∷ [];
    }
    -- K: DELIVER with nothing submitted
    ∷ record {
      file = "01000400000005 020009010000000000000001 0F0000 12000100";
      gives = "STEP 0 26 0 0\nITEM 0 0 1 5\n";
      closed = [];
    }
    ∷ []

pub computed : each_gives cases ≡ true
unfolding each_gives cases gives_it closed_of closed_by verdicts sames same text hex_from listing_of lines_of step_lines verdict_in item_lines state_lines end_of answers_of digits_by digits_of fields_of line_of each
    file_of schedule_turn read_schedule step_by steps_from steps_of taken ended turn_of setup_turn read_from file_refusal row_of with_keys with_group with_txn allowed in_schedule judge_at cut_turn cut_of walk rule_of values_fit pairs_fit fits record_at number
    fresh_of Fresh.start_of step_refusal done decided step_of first_closing_in closes_first_in first_delivering_in first_carried_in first_from_in first_to_in todo_in settle_for settle_done read_done submit_done deliver_done carry_done stored committed close_done
    read_refusal_in submit_refusal_in deliver_refusal_in vote_refusal_in carry_refusal_in verdict_refusal_in close_refusal_in refusal_in counts_fit row_fits txn_fits txns_fit places_fit usable head_in blocked_in next_in submitted_in certify_in covers_key covered_in all_yes_in verdict_by room_in
    in_row twice present meets conflict_in some_in all_in touches inside local keys_from keys_refusal size_refusal count_refusal key_refusal txn_refusal some_group end_refusal judge no_tables
    member within adding any_below all_below sum_below first_below first_of list_from
computed = refl
