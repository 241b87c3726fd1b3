-- Demand 1 for files: what is listed has tables that the reader takes and ends one-copy serializable; the C caller gets that listing or a refusal's number.
-- Assumes nothing.
use Prim.Native.Nat.{ℕ}
use mathlib.Core.Bool.{Bool, true, false, cond}
use mathlib.Core.Path.{◌≡◌, refl, sym, subst}
use mathlib.Core.Logic.{inl, inr}
use mathlib.Core.List.{List}
use lib.Dec.{leb}
use lib.ListN.{length, take, drop}
use types.Run.{OneOf, hit, miss}
use borrow.Author.Tests.{leb-true, leb-false}
use Rattle.files.specs.declared.Where.{Where}
use Rattle.files.specs.Cut.{cut_of}
use Rattle.std.specs.Prelude.{Result, Ok, Err}
use Rattle.numbers.specs.Numbers.{file_number as number_of}
use Rattle.files.specs.declared.Refused.{Refused}
use Rattle.files.proofs.Agrees.{file_judged}
use Rattle.files.proofs.Numbers.{file_numbers_lem, file_refused}
use Rattle.listing.specs.Listing.{Listing, refused, listed, lines_of, list_by, listing_of}
use Rattle.demands.specs.File.{read_of, schedule_in, Listed, file_numbers, came_of, Demand1}
use Rattle.demands.proofs.OneCopy.{every_state_one_copy}

pub every_listing : (file bytes : List ℕ) → listing_of file ≡ listed bytes → Listed file bytes
unfolding listing_of lines_of
every_listing file bytes = by (read_of file).outcome refl
  where
    by : (o : Result (Unit {0}) (Refused Where)) → (read_of file).outcome ≡ o → list_by (cut_of file) (read_of file).tables (drop (cut_of file) file) o ≡ listed bytes → Listed file bytes
    by (Ok _) e h =
        let j = file_judged (take (cut_of file) file) (drop (cut_of file) file) e in
        let q : lines_of (read_of file).tables (drop (cut_of file) file) ≡ bytes = cc in
        record { taken = j; lines = sym q; one_copy = every_state_one_copy (read_of file).tables j (schedule_in file) }
    by (Err r) e h = absurd (cc)

file_number : (file : List ℕ) (n at : ℕ) → listing_of file ≡ refused n at → OneOf file_numbers_lem n
unfolding listing_of
file_number file n at = by (read_of file).outcome refl
  where
    by : (o : Result (Unit {0}) (Refused Where)) → (read_of file).outcome ≡ o → list_by (cut_of file) (read_of file).tables (drop (cut_of file) file) o ≡ refused n at → OneOf file_numbers_lem n
    by (Ok _) e h = absurd (cc)
    by (Err r) e h = let q : number_of r.why ≡ n = cc in subst (OneOf file_numbers_lem) q (file_refused (take (cut_of file) file) (drop (cut_of file) file) r e).number

-- those and 9
wider : (n : ℕ) → OneOf file_numbers_lem n → OneOf file_numbers n
wider n (inl e) = inl e
wider n (inr (inl e)) = inr (inl e)
wider n (inr (inr (inl e))) = inr (inr (inl e))
wider n (inr (inr (inr (inl e)))) = inr (inr (inr (inl e)))
wider n (inr (inr (inr (inr (inl e))))) = inr (inr (inr (inr (inl e))))
wider n (inr (inr (inr (inr (inr (inl e)))))) = inr (inr (inr (inr (inr (inl e)))))
wider n (inr (inr (inr (inr (inr (inr e)))))) = inr (inr (inr (inr (inr (inr (inl e))))))

pub demand1_file : (file out : List ℕ) → Demand1 file out
demand1_file file out = by (listing_of file) refl
  where
    fits : (bytes : List ℕ) (b : Bool) → leb (length bytes) (length out) ≡ b → listing_of file ≡ listed bytes → came_of file out ≡ cond b (listed bytes) (refused 9 0) → Demand1 file out
    fits bytes true e h c = record { either = inl (bytes, record { lists = h; room = leb-true (length bytes) (length out) e; came = c; answer = rw c; left = rw c }) }
    fits bytes false e h c = record {
      either = inr (
        9,
        record {
          number = hit file_numbers 9 tt;
          answer = rw c;
          left = rw c;
          short = λ _. (bytes, h, leb-false (length bytes) (length out) e);
          refuses = λ d. absurd (d refl);
        },
      );
    }

    by : (l : Listing) → listing_of file ≡ l → Demand1 file out
    by (listed bytes) e = fits bytes (leb (length bytes) (length out)) refl e (rw e)
    by (refused n at) e = record {
      either = inr (
        n,
        record {
          number = wider n (file_number file n at e);
          answer = rw e;
          left = rw e;
          short = λ q. absurd (miss file_numbers_lem 9 tt (subst (OneOf file_numbers_lem) q (file_number file n at e)));
          refuses = λ _. (at, e);
        },
      );
    }
