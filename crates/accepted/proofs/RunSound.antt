-- The runs that final groups are cut into: together they have the groups' rows in their order, and each is what reading back asks of a run; the
-- map names each id once. Assumes nothing.
use mathlib.Core.Path.{◌≡◌, refl, sym, ap, ap₂, ◌∙◌}
use mathlib.Core.Bool.{Bool, true, false, not, ◌||◌}
use mathlib.Core.Logic.{⊎_elim}
use mathlib.Core.List.Memᴰ
use mathlib.Core.List.{List, [], ◌∷◌, ◌++◌, map, append_assoc, Memᴰ}
use Prim.Native.Nat.{ℕ, zero, suc, ◌+◌, ◌*◌, ◌≤◌, ◌<◌}
use native.Mathlib.Omega.{arith}
use lib.Dec.{eqb}
use borrow.Author.Tests.{ne_eqb}
use lib.ListN.{length, get_or, take, drop, length-take}
use lib.Seq.{drop-drop, take-add, take_all}
use Rattle.laws.specs.Every.{All, EachTwo}
use Rattle.laws.specs.Bounded.{tabulate}
use Rattle.laws.specs.Joining.{join_all}
use Rattle.laws.proofs.Cases.{lt-or-ge}
use Rattle.laws.proofs.ListLaws.{map-append}
use Rattle.laws.proofs.EveryLaws.{all-imp, all_append, all-get_or, two-imp}
use Rattle.shapes.specs.Shape.{Shape}
use Rattle.shapes.specs.Group.{max_items}
use Rattle.rows.specs.Row.{Set, Widths, Covers}
use Rattle.rows.specs.Subtable.{run_count_for}
use Rattle.store.specs.Placing.{Final, runs_of, all_runs, names, in_run, id_words}
use Rattle.rows.proofs.RunLaws.{run_none, run-some}
use Rattle.readback.proofs.Parsing.{Sound}
use Rattle.encoder.specs.Packed.{Packed}
use Rattle.encoder.proofs.NumberLaws.{mem-at}
use Rattle.accepted.proofs.PackedLaws.{row_ids, WellPacked}

-- ---- the rows of the runs are those of the groups

module _ (s : Shape) (l : List ℕ) where
  abbrev cut : ℕ → Final
  cut k = record { shape = s; ids = take max_items (drop (max_items * k) l) }

  cut-rows : (m k : ℕ) → row_ids (tabulate k m cut) ≡ take (max_items * m) (drop (max_items * k) l)
  unfolding tabulate join_all
  cut-rows zero k = refl
  cut-rows (suc m) k =
      let e : max_items * suc m ≡ max_items + max_items * m = omega arith in
      let f : max_items * suc k ≡ max_items * k + max_items = omega arith in
      ap (λ (r : List ℕ). take max_items (drop (max_items * k) l) ++ r)
      (cut-rows m (suc k) ∙ ap (λ (a : ℕ). take (max_items * m) (drop a l)) f ∙ ap (take (max_items * m)) (sym (drop-drop max_items (max_items * k) l)))
      ∙ sym (ap (λ (a : ℕ). take a (drop (max_items * k) l)) e ∙ take-add max_items (max_items * m) (drop (max_items * k) l))

-- there are enough runs
runs-enough : (n : ℕ) → n ≤ max_items * run_count_for n
runs-enough n = ⊎_elim
    (λ (p : n < 1). omega (arith, run_none n (omega arith)))
    (λ (p : 1 ≤ n). omega (arith, run-some n (omega arith)))
    (lt-or-ge n 1)

group-rows : (g : Final) → row_ids (runs_of g) ≡ g.ids
unfolding runs_of
group-rows g =
    cut-rows g.shape g.ids (run_count_for (length g.ids)) 0
    ∙ take_all (max_items * run_count_for (length g.ids)) g.ids (runs-enough (length g.ids))

rows_append : (a b : List Final) → row_ids (a ++ b) ≡ row_ids a ++ row_ids b
unfolding join_all
rows_append [] b = refl
rows_append (g ∷ a) b = ap (λ (l : List ℕ). g.ids ++ l) (rows_append a b) ∙ sym (append_assoc g.ids (row_ids a) (row_ids b))

pub runs-rows : (gs : List Final) → row_ids (all_runs gs) ≡ row_ids gs
unfolding all_runs join_all
runs-rows [] = refl
runs-rows (g ∷ gs) = rows_append (runs_of g) (all_runs gs) ∙ ap₂ ◌++◌ (group-rows g) (runs-rows gs)

-- ---- the row of an id

abbrev empty : Final
empty = record { shape = []; ids = [] }

pub record Spot (rs : List Final) (x : ℕ) : Type 0 where
  pub outer : ℕ
  pub inner : ℕ
  pub outer_below : outer < length rs
  pub inner_below : inner < length (get_or rs outer empty).ids
  pub is : get_or (get_or rs outer empty).ids inner 0 ≡ x

pub spot_of : (rs : List Final) (x : ℕ) → Memᴰ x (row_ids rs) → Spot rs x
unfolding join_all
spot_of [] x m = absurd (Memᴰ.not-nil m)
spot_of (r ∷ rs) x m = ⊎_elim
    (λ (t : Memᴰ x r.ids).
    let a = mem-at r.ids 0 x t in
    record { outer = 0; inner = a.place; outer_below = omega arith; inner_below = a.below; is = a.is })
    (λ t.
    let s = spot_of rs x t in
    record { outer = suc s.outer; inner = s.inner; outer_below = omega (arith, s.outer_below); inner_below = s.inner_below; is = s.is })
    (Memᴰ.append_cases r.ids m)

-- ---- the map names the rows' ids

run-ids : (outer inner : ℕ) (xs : List ℕ) → map (λ (e : ℕ × ℕ). e.0) (in_run outer inner xs) ≡ xs
unfolding in_run
run-ids outer inner [] = refl
run-ids outer inner (x ∷ xs) = ap (λ (l : List ℕ). x ∷ l) (run-ids outer (suc inner) xs)

pub words-ids : (outer : ℕ) (rs : List Final) → map (λ (e : ℕ × ℕ). e.0) (id_words outer rs) ≡ row_ids rs
unfolding id_words join_all
words-ids outer [] = refl
words-ids outer (r ∷ rs) =
    map-append (λ (e : ℕ × ℕ). e.0) (in_run outer 0 r.ids) (id_words (suc outer) rs)
    ∙ ap₂ ◌++◌ (run-ids outer 0 r.ids) (words-ids (suc outer) rs)

two-unmap : {A B : Type 0} (R : B → B → Type 0) (f : A → B) (l : List A) → EachTwo R (map f l) → EachTwo (λ x y. R (f x) (f y)) l
two-unmap R f [] h = tt
two-unmap R f (x ∷ l) h = (go l h.0, two-unmap R f l h.1)
  where
    go : (m : List _) → All (R (f x)) (map f m) → All (λ y. R (f x) (f y)) m
    go [] k = tt
    go (y ∷ m) k = (k.0, go m k.1)

pub words-once : (rs : List Final) → EachTwo (λ x y. x ≡ y → ⊥) (row_ids rs) → EachTwo (λ (a b : ℕ × ℕ). b.0 ≡ a.0 → ⊥) (id_words 0 rs)
words-once rs h =
    two-imp (λ a b d e. d (sym e)) (id_words 0 rs)
    (two-unmap (λ (x y : ℕ). x ≡ y → ⊥) (λ (e : ℕ × ℕ). e.0) (id_words 0 rs) (rw (words-ids 0 rs) h))

-- ---- each run

tabulate-all : (P : Final → Type 0) (a n : ℕ) (f : ℕ → Final) → ((k : ℕ) → P (f k)) → All P (tabulate a n f)
unfolding tabulate
tabulate-all P a zero f h = tt
tabulate-all P a (suc n) f h = (h a, tabulate-all P (suc a) n f h)

module _ (P : ℕ → Type 0) where
  all_take : (n : ℕ) (l : List ℕ) → All P l → All P (take n l)
  all_take zero l h = tt
  all_take (suc n) [] h = tt
  all_take (suc n) (x ∷ l) h = (h.0, all_take n l h.1)

  all_drop : (n : ℕ) (l : List ℕ) → All P l → All P (drop n l)
  all_drop zero l h = h
  all_drop (suc n) [] h = tt
  all_drop (suc n) (x ∷ l) h = all_drop n l h.1

-- what holds of the runs of each group
pub runs-all : (P : Final → Type 0) (gs : List Final) → All (λ (g : Final). All P (runs_of g)) gs → All P (all_runs gs)
unfolding all_runs join_all
runs-all P [] h = tt
runs-all P (g ∷ gs) h = all_append P (runs_of g) (all_runs gs) h.0 (runs-all P gs h.1)

-- a region that a group has a width for is named
names-here : (r : ℕ) (g : Final) (gs : List Final) → 0 < get_or g.shape r 0 → names r (g ∷ gs) ≡ true
unfolding names
names-here r g gs h = rw (ne_eqb (get_or g.shape r 0) 0 (omega arith))

names-there : (r : ℕ) (g : Final) (gs : List Final) → names r gs ≡ true → names r (g ∷ gs) ≡ true
unfolding names
names-there r g gs h = rw h (go (not (eqb (get_or g.shape r 0) 0)))
  where
    go : (b : Bool) → b || true ≡ true
    go true = refl
    go false = refl

abbrev NamedIn : List Final → Final → Type 0
NamedIn gs g = (r : ℕ) → 0 < get_or g.shape r 0 → names r gs ≡ true

pub names-all : (gs : List Final) → All (λ (g : Final). (r : ℕ) → 0 < get_or g.shape r 0 → names r gs ≡ true) gs
names-all [] = tt
names-all (g ∷ gs) = (
  λ r h. names-here r g gs h,
  all-imp {P = NamedIn gs} {Q = NamedIn (g ∷ gs)} (λ (f : Final) k r h. names-there r g gs (k r h)) gs (names-all gs),
)

-- what a group must be
record Fit (coords : List (List ℕ)) (set : ℕ → Set) (gs : List Final) (g : Final) : Type 0 where
  long : length g.shape ≤ length coords
  widths : Widths g.shape
  named : (r : ℕ) → 0 < get_or g.shape r 0 → names r gs ≡ true
  covers : All (λ x. Covers g.shape (set x)) g.ids

fit-sound : (coords : List (List ℕ)) (set : ℕ → Set) (gs : List Final) (g : Final) → Fit coords set gs g → All (Sound coords set gs) (runs_of g)
unfolding runs_of
fit-sound coords set gs g f =
    tabulate-all (Sound coords set gs) 0 (run_count_for (length g.ids)) (cut g.shape g.ids)
    (λ k.
    let part = take max_items (drop (max_items * k) g.ids) in
    let held : All (λ x. Covers g.shape (set x)) part =
    all_take (λ x. Covers g.shape (set x)) max_items (drop (max_items * k) g.ids) (all_drop (λ x. Covers g.shape (set x)) (max_items * k) g.ids f.covers) in
    record {
      long = f.long;
      widths = f.widths;
      named = f.named;
      items = omega (arith, length-take max_items (drop (max_items * k) g.ids));
      covers = λ i h. all-get_or (λ x. Covers g.shape (set x)) part i 0 held h;
    })

module _ (regions : ℕ) (k : Packed) (good : WellPacked regions k) where
  groups-fit : (coords : List (List ℕ)) → length coords ≡ regions → All (Fit coords (λ x. get_or k.sets x []) k.finals) k.finals
  groups-fit coords e = go k.finals good.long good.widths (names-all k.finals) good.covers
    where
      go : (gs : List Final) → All (λ (g : Final). length g.shape ≡ regions) gs → All (λ (g : Final). Widths g.shape) gs
          → All (λ (g : Final). (r : ℕ) → 0 < get_or g.shape r 0 → names r k.finals ≡ true) gs
          → All (λ (g : Final). All (λ x. (x < length k.sets) × Covers g.shape (get_or k.sets x [])) g.ids) gs
          → All (Fit coords (λ x. get_or k.sets x []) k.finals) gs
      go [] a b c d = tt
      go (g ∷ gs) a b c d = (
        record { long = let l = a.0 in omega arith; widths = b.0; named = c.0; covers = all-imp (λ x h. h.1) g.ids d.0 },
        go gs a.1 b.1 c.1 d.1,
      )

  -- THE LAW: each run is sound
  pub runs-sound : (coords : List (List ℕ)) → length coords ≡ regions → All (Sound coords (λ x. get_or k.sets x []) k.finals) (all_runs k.finals)
  runs-sound coords e =
      let set : ℕ → Set = λ x. get_or k.sets x [] in
      runs-all (Sound coords set k.finals) k.finals (all-imp (λ (g : Final) f. fit-sound coords set k.finals g f) k.finals (groups-fit coords e))

  -- each id has its row in a run, and the map names it once
  pub id-spot : (x : ℕ) → x < length k.sets → Spot (all_runs k.finals) x
  id-spot x h = spot_of (all_runs k.finals) x (rw (runs-rows k.finals) (good.each x h))

  pub ids-once : EachTwo (λ (a b : ℕ × ℕ). b.0 ≡ a.0 → ⊥) (id_words 0 (all_runs k.finals))
  ids-once = words-once (all_runs k.finals) (rw (runs-rows k.finals) good.once)
