-- What a host is told of a call about a store: the number that is returned, all that is left, and the report before and after. Assumes nothing.
use Rattle.std.specs.Prelude.{◌≡◌, List, ℕ, length}
use Rattle.stores.specs.Stores.{parse}
use Rattle.recoverer.specs.Recover.{recovered_of, job_left}
use Rattle.recoverer.specs.Recover as recover
use Rattle.keeping.specs.Keeping.{keep_of, out_left, places_left}
use Rattle.keeping.specs.Keeping as keep
use Rattle.reporting.specs.Answers.{filled}
use Rattle.store_words.specs.StoreWords.{recover_number, recovered_words, kept_number, kept_words}

-- a store read back into a job
pub record RecoverTold (store work out : List ℕ) (number : ℕ) (work' out' report report' : List ℕ) : Type 0 where
  pub number_is : number ≡ recover_number (recovered_of store (length work) (length out))
  pub work-is : work' ≡ recover.work_left (length store) work
  pub out-is : out' ≡ job_left store (length work) out
  pub report-is : report' ≡ filled 0 (recovered_words (recovered_of store (length work) (length out))) report

-- a store with only the rows of a list
pub record KeepTold (store rows work out places : List ℕ) (number : ℕ) (work' out' places' report report' : List ℕ) : Type 0 where
  pub number_is : number ≡ kept_number (keep_of store rows (length work) (length out) (length places))
  pub work-is : work' ≡ keep.work_left (length store) (length rows) work
  pub out-is : out' ≡ out_left (parse store) rows (keep_of store rows (length work) (length out) (length places)) out
  pub places_is : places' ≡ places_left (parse store) rows (keep_of store rows (length work) (length out) (length places)) places
  pub report-is : report' ≡ filled 0 (kept_words (keep_of store rows (length work) (length out) (length places))) report
