-- D2, what goes in comes out, over the definitions alone: the store and the map of packed sets, read by the reader's
-- definition. Assumes nothing.
use mathlib.Core.Path.{◌≡◌, sym, ap, subst, ◌∙◌}
use mathlib.Core.Bool.{true, false}
use mathlib.Core.Logic.{◌⊎◌, inl, inr, ⊎_elim}
use mathlib.Core.List.{List, []}
use Prim.Native.Nat.{ℕ, ◌+◌, ◌-◌, ◌*◌, ◌≤◌, ◌<◌}
use native.Mathlib.Omega.{arith}
use lib.Dec.{eqb}
use borrow.Author.Tests.{eqb-true}
use lib.ListN.{length, get_or}
use Rattle.laws.specs.Signed.{is_zero, value, zero_word}
use Rattle.laws.proofs.Cases.{lt-or-ge, same_or_not, true-false}
use Rattle.laws.proofs.SignedLaws.{value-below, value-above}
use Rattle.shapes.proofs.WidthLaws.{cost-none}
use Rattle.sets.specs.Set.{Set, word_of}
use Rattle.reader.specs.Store.{Written, NoColumn, read_store, value_of}
use Rattle.laws.proofs.RankLaws.{rank_less, rank-onto, kept_at}
use Rattle.rows.specs.Row.{value_in, Covers}
use Rattle.store.specs.Placing.{Final, all_runs, id_words, names, kept_of, new_index, store_of, stored}
use Rattle.readback.proofs.MapBack.{empty, map_at}
use Rattle.readback.proofs.Parsing.{Sound, Fit}
use Rattle.readback.proofs.StoreBack.{run_sound, store-none, store-value, store-back}
use Rattle.encoder.specs.Packed.{Packed}
use Rattle.finishing.specs.Late.{store_for}
use Rattle.accepted.proofs.PackedLaws.{WellPacked, word_same}
use Rattle.accepted.proofs.RunSound.{Spot, id-spot, ids-once}

-- the row of id x: m is what the map's words were before
pub record RowOf (axes regions : ℕ) (coords : List (List ℕ)) (k : Packed) (m : List ℕ) (x : ℕ) : Type 0 where
  -- outer, inner and the map word (F4)
  pub outer : ℕ
  pub inner : ℕ
  pub outer_below : outer < 65536
  pub inner_below : inner < 65536
  pub word-is : get_or (stored (id_words 0 (all_runs k.finals)) m) x 0 ≡ outer * 65536 + inner
  -- Written or NoColumn (V7): reading a region of the list is never refused
  pub answers : (r : ℕ) → r < regions → names r k.finals ≡ true
      → (read_store (store_for axes coords k) outer inner (new_index k.finals r) ≡ Written (value (word_of (get_or k.sets x []) r)))
      ⊎ (read_store (store_for axes coords k) outer inner (new_index k.finals r) ≡ NoColumn)
  -- the row has the set's value for every region of the list, zero where it has none (D2)
  pub gives_back : (r : ℕ) → r < regions → names r k.finals ≡ true
      → value_of (read_store (store_for axes coords k) outer inner (new_index k.finals r)) ≡ value (word_of (get_or k.sets x []) r)
  -- C6: for a region that is not in the list the set's value is zero
  pub not_listed : (r : ℕ) → names r k.finals ≡ false → word_of (get_or k.sets x []) r ≡ zero_word

-- where a region of the store's list comes from
pub record Listed (regions : ℕ) (gs : List Final) (q : ℕ) : Type 0 where
  pub region : ℕ
  pub below : region < regions
  pub named : names region gs ≡ true
  pub numbered : new_index gs region ≡ q
  pub is : get_or (kept_of regions gs) q 0 ≡ region

pub record RowsBack (axes regions : ℕ) (coords : List (List ℕ)) (k : Packed) : Type 0 where
  -- each id's row is its set's, whatever the map held before
  pub rows : (m : List ℕ) → length k.sets ≤ length m → (x : ℕ) → x < length k.sets → RowOf axes regions coords k m x
  -- C5: each region of the list is one that is named
  pub listed : (q : ℕ) → q < length (kept_of regions k.finals) → Listed regions k.finals q
  -- and each that is named stands in the list under its new number, with its coordinates
  pub kept : (r : ℕ) → r < regions → names r k.finals ≡ true
      → (new_index k.finals r < length (kept_of regions k.finals)) × (get_or (kept_of regions k.finals) (new_index k.finals r) 0 ≡ r)
  pub in_order : (r q : ℕ) → r < q → names r k.finals ≡ true → new_index k.finals r < new_index k.finals q

-- ---- the word of zero

value-zero : (w : ℕ) → is_zero (value w) ≡ true → w ≡ zero_word
unfolding is_zero
value-zero w h = ⊎_elim
    (λ (l : w < zero_word). let n : is_zero (value w) ≡ false = ap is_zero (value-below w l) in absurd (true-false h n))
    (λ l. let n : eqb (w - zero_word) 0 ≡ true = sym (ap is_zero (value-above w l)) ∙ h in omega (arith, eqb-true (w - zero_word) 0 n))
    (lt-or-ge w zero_word)

-- ---- reading

module _ (axes regions : ℕ) (coords : List (List ℕ)) (k : Packed) (good : WellPacked regions k) (coords-are : length coords ≡ regions)
    (fit : Fit axes coords (λ y. get_or k.sets y []) k.finals) (short : length (store_for axes coords k) < 4294967296) where
  abbrev gs : List Final
  gs = k.finals

  abbrev set : ℕ → Set
  set y = get_or k.sets y []

  brief : length (store_of axes coords set gs) < 4294967296
  unfolding store_for
  brief = short

  module _ (x : ℕ) (h : x < length k.sets) where
    spot : Spot (all_runs gs) x
    spot = id-spot regions k good x h

    sound : Sound coords set gs (get_or (all_runs gs) spot.outer empty)
    sound = run_sound axes coords set gs fit spot.outer spot.outer_below spot.inner spot.inner_below

    same_word : (r : ℕ) → value_in (set (get_or (get_or (all_runs gs) spot.outer empty).ids spot.inner 0)) r ≡ value (word_of (set x) r)
    same_word r = ap (λ (y : ℕ). value_in (set y) r) spot.is ∙ ap value (word_same (set x) r)

    module _ (r : ℕ) (region : r < regions) (named : names r gs ≡ true) where
      here : r < length coords
      here = omega arith

      none-at : get_or (get_or (all_runs gs) spot.outer empty).shape r 0 ≡ 0
          → read_store (store_for axes coords k) spot.outer spot.inner (new_index gs r) ≡ NoColumn
      unfolding store_for
      none-at e = store-none axes coords set gs fit spot.outer spot.outer_below spot.inner spot.inner_below r here named brief e

      some_at : (get_or (get_or (all_runs gs) spot.outer empty).shape r 0 ≡ 0 → ⊥)
          → read_store (store_for axes coords k) spot.outer spot.inner (new_index gs r) ≡ Written (value (word_of (set x) r))
      unfolding store_for
      some_at d = store-value axes coords set gs fit spot.outer spot.outer_below spot.inner spot.inner_below r here named brief d
          ∙ ap Written (same_word r)

      back_at : value_of (read_store (store_for axes coords k) spot.outer spot.inner (new_index gs r)) ≡ value (word_of (set x) r)
      unfolding store_for
      back_at = store-back axes coords set gs fit spot.outer spot.outer_below spot.inner spot.inner_below r here named brief
          ∙ same_word r

    zero-at : (r : ℕ) → names r gs ≡ false → word_of (set x) r ≡ zero_word
    zero-at r n =
        let run = get_or (all_runs gs) spot.outer empty in
        let c : Covers run.shape (set x) = subst (λ (y : ℕ). Covers run.shape (set y)) spot.is (sound.covers spot.inner spot.inner_below) in
        let none : get_or run.shape r 0 ≡ 0 = ⊎_elim
        (λ (e : get_or run.shape r 0 ≡ 0). e)
        (λ d. absurd (true-false (sound.named r (omega arith)) n))
        (same_or_not (get_or run.shape r 0) 0) in
        value-zero (word_of (set x) r) (rw (word_same (set x) r) at (cost-none (value_in (set x) r) (omega (arith, c.holds r))))

    row-of : (m : List ℕ) → length k.sets ≤ length m → RowOf axes regions coords k m x
    row-of m l = record {
      outer = spot.outer;
      inner = spot.inner;
      outer_below = omega (arith, spot.outer_below, fit.runs-few);
      inner_below = omega (arith, spot.inner_below, sound.items);
      word-is =
          subst (λ (y : ℕ). get_or (stored (id_words 0 (all_runs gs)) m) y 0 ≡ spot.outer * 65536 + spot.inner) spot.is
          (map_at (all_runs gs) m spot.outer spot.inner (ids-once regions k good) spot.outer_below spot.inner_below (omega (arith, spot.is)));
      answers = λ r b n. ⊎_elim
          (λ (e : get_or (get_or (all_runs gs) spot.outer empty).shape r 0 ≡ 0). inr (none-at r b n e))
          (λ d. inl (some_at r b n d))
          (same_or_not (get_or (get_or (all_runs gs) spot.outer empty).shape r 0) 0);
      gives_back = back_at;
      not_listed = zero-at;
    }

  -- THE LAW
  pub rows-back : RowsBack axes regions coords k
  rows-back = record {
    rows = λ m l x h. row-of x h m l;
    listed = λ q h.
        let a = rank-onto (λ r. names r gs) regions q h in
        record {
          region = a.0;
          below = a.1;
          named = a.2;
          numbered = a.3;
          is = ap (λ (j : ℕ). get_or (kept_of regions gs) j 0) (sym a.3) ∙ kept_at (λ r. names r gs) regions a.0 a.1 a.2;
        };
    kept = λ r h t. (rank_less (λ q. names q gs) r regions t h, kept_at (λ q. names q gs) regions r h t);
    in_order = λ r q h t. rank_less (λ y. names y gs) r q t h;
  }
