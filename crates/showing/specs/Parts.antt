-- The bytes that show an id (RULES Z5, Z6): the record that ends the first set that has it, and its row in the store. Assumes nothing.
use Rattle.std.specs.Prelude.{not, List, [], ℕ, ◌+◌, ◌*◌, ◌/◌, ◌%◌, eqb, ltb, leb, length, get_or, take, drop}
use Rattle.laws.specs.Pick.{pick}
use Rattle.laws.specs.Bytes.{be}
use Rattle.laws.specs.Bounded.{up_to}
use Rattle.laws.specs.Sorting.{keep}
use Rattle.said.specs.Records.{record_bytes, record_start, record_at, record_count, is_end}
use Rattle.reader.specs.Store.{region_count, is_header_ok, column_start, item_count, word_at, column_count, is_subtable_ok}
use Rattle.finding.specs.First.{first_at}
use Rattle.finding.specs.Asked.{asked_refusal}
use Rattle.finishing.specs.Answers.{Built}
use Rattle.finishing.specs.Answers as built
use Rattle.showing.specs.declared.ends.Span.{Span}
use Rattle.showing.specs.Answers.{Shown}
use Rattle.showing.specs.Answers.{Refused, InJob, InStore}

-- ---- parts: where one starts and how long it is. An empty one starts at 0

abbrev pub no_span : Span
no_span = record { at = 0; long = 0 }

unfoldable pub span : ℕ → ℕ → Span
span at long = pick (eqb long 0) no_span (record { at = at; long = long })

-- the end records of a job, each of which ends the next set
unfoldable pub ends_of : List ℕ → List ℕ
ends_of job = keep (λ i. is_end (record_at job i)) (up_to (record_count job))

-- the one that ends set j; as many as there are records where there is none
unfoldable pub end_at : List ℕ → ℕ → ℕ
end_at job j = pick (ltb j (length (ends_of job))) (get_or (ends_of job) j 0) (record_count job)

unfoldable pub end_span : List ℕ → ℕ → Span
end_span job j = pick (ltb (end_at job j) (record_count job)) (record { at = record_start (end_at job j); long = record_bytes }) no_span

-- row inner of a subtable: its columns stand behind the region indexes and the rows before it
unfoldable pub row_in : List ℕ → (at inner : ℕ) → Span
row_in s at inner =
    pick (eqb at 0) no_span
    (pick (not (is_subtable_ok s at (region_count s))) no_span
    (pick (leb (item_count s at) inner) no_span
    (span (at + 6 + 2 * column_count s at + inner * column_start (word_at s at) (column_count s at)) (column_start (word_at s at) (column_count s at)))))

-- the row of a map word (F4), by the tests V1 to V4
unfoldable pub row_span : List ℕ → (word : ℕ) → Span
row_span s word =
    pick (not (is_header_ok s)) no_span
    (pick (leb (be 2 s 6) (word / 65536)) no_span
    (row_in s (be 4 s (8 + 4 * (word / 65536))) (word % 65536)))

-- ---- what is handed back

abbrev pub in_job : Span → Shown
in_job p = InJob p.at p.long

abbrev pub in_store : Span → Shown
in_store p = InStore p.at p.long

-- 0 asks for the job, all else for the store; ids are those of the job's sets, map has the word of each id
unfoldable pub asked_part : (job store ids map : List ℕ) (id what : ℕ) → Shown
asked_part job store ids map id what = pick (eqb what 0) (in_job (end_span job (first_at id ids))) (in_store (row_span store (get_or map id 0)))

unfoldable pub found_of : Built → (job store out ids map : List ℕ) (id what : ℕ) → Shown
found_of (built.Refused n at) job store out ids map id what = Refused n at
found_of (built.Done r) job store out ids map id what =
    pick (eqb (asked_refusal r.ids r.bytes id id store out) 0)
    (asked_part job store ids map id what)
    (Refused (asked_refusal r.ids r.bytes id id store out) 0)

-- its bytes: none of a refusal
unfoldable pub bytes_shown : (job store : List ℕ) → Shown → List ℕ
bytes_shown job store (Refused n at) = []
bytes_shown job store (InJob at long) = take long (drop at job)
bytes_shown job store (InStore at long) = take long (drop at store)
