-- What was made of a store, told in numbers. Assumes nothing.
use mathlib.Core.Path.{◌≡◌, refl, sym, ap, ◌∙◌}
use mathlib.Core.List.{List, [], ◌∷◌}
use Prim.Native.Nat.{ℕ}
use lib.ListN.{length}
use Rattle.std.specs.Prelude.{Result, Ok, Err}
use Rattle.refusals.specs.declared.Refusal.{Refusal}
use Rattle.refusals.specs.Refusals.{number}
use Rattle.stores.specs.Stores.{parse}
use Rattle.recoverer.specs.declared.RecoveredCounts.{RecoveredCounts}
use Rattle.recoverer.specs.Answers.{Recovered, recovered}
use Rattle.recoverer.specs.Recover.{recovered_of, job_left, work_left}
use Rattle.keeping.specs.declared.KeptCounts.{KeptCounts}
use Rattle.keeping.specs.Answers.{Kept, kept}
use Rattle.keeping.specs.Answers as keeping
use Rattle.keeping.specs.Keeping.{keep_of, out_left, places_left}
use Rattle.keeping.specs.Keeping as keep
use Rattle.reporting.specs.Answers.{refused_words, filled}
use Rattle.reporting.proofs.ReportLaws.{filled-all}
use Rattle.store_words.specs.StoreWords.{count_words, recover_number, recovered_words, kept_number, kept_words}
use Rattle.store_words.specs.Told.{RecoverTold, KeepTold}

module _ (old : List ℕ) (sixteen-long : length old ≡ 16) where
  few : (l : List ℕ) → length l ≡ 16 → l ≡ filled 0 l old
  few l e = sym (filled-all l old (sixteen-long ∙ sym e))

  counts-told : (b x y z : ℕ) → count_words b x y z ≡ filled 0 (count_words b x y z) old
  unfolding count_words
  counts-told b x y z = few (count_words b x y z) refl

  refused-told : (n : ℕ) → refused_words n 0 0 ≡ filled 0 (refused_words n 0 0) old
  unfolding refused_words
  refused-told n = few (refused_words n 0 0) refl

  -- ---- a store read back into a job

  pub recover-done : (r : Result RecoveredCounts Refusal) (c : RecoveredCounts) → r ≡ Ok c
      → (0 ≡ recover_number (recovered r)) × (count_words c.bytes c.axes c.regions c.sets ≡ filled 0 (recovered_words (recovered r)) old)
  unfolding recover_number recovered_words
  recover-done r c e = rw e (refl, counts-told c.bytes c.axes c.regions c.sets)

  pub recover-refused : (r : Result RecoveredCounts Refusal) (x : Refusal) → r ≡ Err x
      → (number x ≡ recover_number (recovered r)) × (refused_words (number x) 0 0 ≡ filled 0 (recovered_words (recovered r)) old)
  unfolding recover_number recovered_words
  recover-refused r x e = rw e (refl, refused-told (number x))

  -- ---- a store with only the rows in use

  pub keep-done : (r : Result KeptCounts Refusal) (c : KeptCounts) → r ≡ Ok c
      → (0 ≡ kept_number (kept r)) × (count_words c.bytes c.tables c.regions c.rows ≡ filled 0 (kept_words (kept r)) old)
  unfolding kept_number kept_words
  keep-done r c e = rw e (refl, counts-told c.bytes c.tables c.regions c.rows)

  pub keep-refused : (r : Result KeptCounts Refusal) (x : Refusal) → r ≡ Err x
      → (number x ≡ kept_number (kept r)) × (refused_words (number x) 0 0 ≡ filled 0 (kept_words (kept r)) old)
  unfolding kept_number kept_words
  keep-refused r x e = rw e (refl, refused-told (number x))

-- ---- a call whole: what was answered, left and told

module _ {store work out work' out' report report' : List ℕ} {number : ℕ} where
  pub recover-whole : (r : Recovered) → r ≡ recovered_of store (length work) (length out) → work' ≡ work_left (length store) work → out' ≡ job_left store (length work) out
      → number ≡ recover_number r → report' ≡ filled 0 (recovered_words r) report → RecoverTold store work out number work' out' report report'
  recover-whole r e w o n h = record {
    number_is = n ∙ ap recover_number e;
    work-is = w;
    out-is = o;
    report-is = h ∙ ap (λ (x : Recovered). filled 0 (recovered_words x) report) e;
  }

  module _ {rows places places' : List ℕ} where
    pub keep-whole : (r : Kept) → r ≡ keep_of store rows (length work) (length out) (length places) → out' ≡ out_left (parse store) rows r out → places' ≡ places_left (parse store) rows r places
        → work' ≡ keep.work_left (length store) (length rows) work → number ≡ kept_number r → report' ≡ filled 0 (kept_words r) report
        → KeepTold store rows work out places number work' out' places' report report'
    keep-whole r e o p w n h = record {
      number_is = n ∙ ap kept_number e;
      work-is = w;
      out-is = o ∙ ap (λ (x : Kept). out_left (parse store) rows x out) e;
      places_is = p ∙ ap (λ (x : Kept). places_left (parse store) rows x places) e;
      report-is = h ∙ ap (λ (x : Kept). filled 0 (kept_words x) report) e;
    }

-- computed: a store of 31 bytes that is one subtable of one region and one row
worked : kept_words (keeping.Done 31 1 1 1) ≡ 0 ∷ 0 ∷ 31 ∷ 1 ∷ 1 ∷ 1 ∷ 0 ∷ 0 ∷ 0 ∷ 0 ∷ 0 ∷ 0 ∷ 0 ∷ 0 ∷ 0 ∷ 0 ∷ []
unfolding kept_words count_words
worked = refl
