-- Rows that nobody uses dropped (#112): a store and the rows still used, each outer x 65,536 + inner, to a store with only those, and for each
-- entry of the list its new place. What is answered and left, with the refusals in their order: R4, R20, R21, R73, R74.
use Rattle.std.specs.Prelude.{Bool, true, not, ◌&&◌, ◌||◌, List, [], ◌∷◌, map, ℕ, ◌+◌, ◌*◌, ◌/◌, ◌%◌, ◌^◌, ltb, length, replicate}
use Rattle.std.proofs.Math.Option.{Option, none, some}
use Rattle.laws.specs.Pick.{pick}
use Rattle.laws.specs.Bag.{weigh}
use Rattle.laws.specs.Bytes.{over}
use Rattle.reader.specs.Store.{bad_store, no_row}
use Rattle.stores.specs.Stores.{Parsed, parse, place}
use Rattle.stores.specs.Dropping.{used, dropped, new_place, row_count}
use Rattle.stores.specs.Coordinates.{is_row_there}
use Rattle.keeping.specs.Answers.{Kept, Done, Refused}

abbrev pub work_short : ℕ
work_short = 4

abbrev pub places_short : ℕ
places_short = 73

abbrev pub kept_short : ℕ
kept_short = 74

-- offsets have four bytes
abbrev pub most_bytes : ℕ
most_bytes = 4294967295

-- the published work, of a store's bytes and the entries of the list; 0 for more than any memory holds
unfoldable pub keeping_work : ℕ → ℕ → ℕ
keeping_work bytes rows = pick (ltb bytes (2 ^ 63) && ltb rows (2 ^ 61)) (3 * rows + bytes + 65536) 0

-- each entry names a row of the store
unfoldable pub all_there : Parsed → List ℕ → Bool
all_there p [] = true
all_there p (x ∷ l) = is_row_there p (x / 65536) (x % 65536) && all_there p l

-- the store that is left
abbrev pub kept_store : Parsed → List ℕ → Parsed
kept_store p rows = dropped p (used rows)

-- its bytes
abbrev pub kept_bytes : Parsed → List ℕ → List ℕ
kept_bytes p rows = place (kept_store p rows)

-- n bytes are too many for an output of `room` bytes, or for a store
unfoldable pub is_too_long : ℕ → ℕ → Bool
is_too_long room n = ltb room n || ltb most_bytes n

-- how much of an output a store can take
unfoldable pub room_of : ℕ → ℕ
room_of long = pick (ltb most_bytes long) most_bytes long

-- how many bytes, subtables, regions and rows are kept
unfoldable pub done_of : Parsed → List ℕ → Kept
done_of p rows =
    Done (length (kept_bytes p rows)) (length (kept_store p rows).tables) (length (kept_store p rows).regions) (weigh row_count (kept_store p rows).tables)

-- the last test, and the answer where it passes
unfoldable pub last_of : Parsed → List ℕ → ℕ → Kept
last_of p rows room = pick (is_too_long room (length (kept_bytes p rows))) (Refused kept_short) (done_of p rows)

unfoldable pub keep_in : Parsed → List ℕ → ℕ → ℕ → Kept
keep_in p rows room places =
    pick (not (all_there p rows)) (Refused no_row)
    (pick (ltb places (length rows)) (Refused places_short)
    (last_of p rows room))

unfoldable pub keep_parsed : Option Parsed → List ℕ → ℕ → ℕ → Kept
keep_parsed none rows room places = Refused bad_store
keep_parsed (some p) rows room places = keep_in p rows room places

-- of a store, the list, and a call that is lent so many words of work, bytes of output and words for the places
unfoldable pub keep_of : List ℕ → List ℕ → ℕ → ℕ → ℕ → Kept
keep_of s rows work room places = pick (ltb work (keeping_work (length s) (length rows))) (Refused work_short) (keep_parsed (parse s) rows room places)

-- ---- what is left

-- the output: the store over what was there; after a refusal it is as it was
unfoldable pub out_left : Option Parsed → List ℕ → Kept → List ℕ → List ℕ
out_left none rows a old = old
out_left (some p) rows (Refused n) old = old
out_left (some p) rows (Done b t r k) old = over old 0 (length (kept_bytes p rows)) (kept_bytes p rows)

-- the places likewise
unfoldable pub places_left : Option Parsed → List ℕ → Kept → List ℕ → List ℕ
places_left none rows a old = old
places_left (some p) rows (Refused n) old = old
places_left (some p) rows (Done b t r k) old = over old 0 (length rows) (map (new_place p (used rows)) rows)

-- work is as it was after R4, and zeros after every other answer
unfoldable pub work_left : ℕ → ℕ → List ℕ → List ℕ
work_left bytes rows old = pick (ltb (length old) (keeping_work bytes rows)) old (replicate (length old) 0)
