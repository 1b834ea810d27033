-- What is read while groups are written: the words before the tables, and the numbers. It stays where only the last two tables change, into
-- which each group's columns and their places are laid. Assumes nothing.
use mathlib.Core.Path.{◌≡◌, sym, ap, ap₂, subst, ◌∙◌}
use mathlib.Core.List.{List, [], ◌∷◌}
use Prim.Native.Nat.{ℕ, ◌+◌, ◌*◌, ◌≤◌, ◌<◌}
use native.Mathlib.Omega.{arith}
use lib.ListN.{length, get_or, take}
use lib.Seq.{get_or-take, length-take-le}
use Rattle.laws.specs.Every.{All}
use Rattle.laws.specs.LentRange.{Only, seg}
use Rattle.laws.proofs.RangeLaws.{only-refl, only-seg, only-trans}
use Rattle.limits.specs.Limits.{max_regions}
use Rattle.rows.specs.Lent.{FormedIn, PlacedIn, Put, Stored, number_in, runs_bytes, set_at, table_bytes}
use Rattle.rows.proofs.InWork.{seg-take, take-only}
use Rattle.rows.proofs.PutLaws.{Putting}
use Rattle.store.specs.Lent.{Handed, chain, final_at, group_bytes, subtable_of}
use Rattle.store.proofs.GroupLaws.{before_same, chain-done, chain_more, chain-room, chain-start, group-is, left, numbers-same}

-- ---- the frame

module _ (s regions : ℕ) (old new : List ℕ) (o : Only ((s + 2 * regions, 2 * regions) ∷ []) old new) (room : s + 4 * regions ≤ length old) where
  pub head-stays : take s new ≡ take s old
  head-stays = take-only o s (omega arith) (λ k l. (record { apart = λ q. omega arith }, tt))

  pub numbers_stay : seg (s + regions) regions new ≡ seg (s + regions) regions old
  numbers_stay = only-seg o (s + regions) regions (omega arith) (λ k a b. (record { apart = λ q. omega arith }, tt))

-- ---- one group

module _ (shape regions s : ℕ) (old : List ℕ) (few : regions ≤ max_regions) (to : shape + regions ≤ s) (room : s + 4 * regions ≤ length old)
    (mid : List ℕ) (word count : ℕ) (f : FormedIn shape regions (s + regions + regions) old mid word count)
    (new : List ℕ) (p : PlacedIn (s + regions + regions) count (s + regions + regions + regions) regions mid new) where
  pub laid-bytes : (index ids n : ℕ)
      → runs_bytes (table_bytes (number_in (seg (s + regions) regions new)) word (seg (s + regions + regions) count new) (set_at index (take s new))) (seg ids n (take s new))
      ≡ runs_bytes (subtable_of (number_in (seg (s + regions) regions old)) (set_at index (take s old)) (seg shape regions old)) (seg ids n (take s old))
  laid-bytes index ids n =
      sym (group-is shape regions s old few to room mid word count f new p (number_in (seg (s + regions) regions new)) (set_at index (take s new)) (seg ids n (take s new)))
      ∙ ap₂ (λ (m w : List ℕ). runs_bytes (subtable_of (number_in m) (set_at index w) (seg shape regions old)) (seg ids n w))
      (numbers-same shape regions s old few to room mid word count f new p) (before_same shape regions s old few to room mid word count f new p)

  pub laid-sets : (index ids n : ℕ) → All (Stored index (take s old)) (seg ids n (take s old)) → All (Stored index (take s new)) (seg ids n (take s new))
  laid-sets index ids n h = subst (λ (w : List ℕ). All (Stored index w) (seg ids n w)) (sym (before_same shape regions s old few to room mid word count f new p)) h

-- ---- the group whose three words stand at a place

module _ (regions index s group : ℕ) (w : List ℕ) (room : s ≤ length w) (h : Handed regions index (take s w) group) where
  long : length (take s w) ≡ s
  long = length-take-le s w room

  pub row-to : group + 3 ≤ s
  row-to = omega (arith, h.row, long)

  word_at : (k : ℕ) → k < 3 → get_or (take s w) (group + k) 0 ≡ get_or w (group + k) 0
  word_at k l = get_or-take s w (group + k) 0 (omega (arith, row-to))

  first-at : get_or (take s w) group 0 ≡ get_or w group 0
  first-at = get_or-take s w group 0 (omega (arith, row-to))

  pub one-shape : get_or w group 0 + regions ≤ s
  one-shape = omega (arith, h.shape, long, first-at)

  pub one-ids : get_or w (group + 1) 0 + get_or w (group + 2) 0 ≤ s
  one-ids = omega (arith, h.ids, long, word_at 1 (omega arith), word_at 2 (omega arith))

  pub one-sets : All (Stored index (take s w)) (seg (get_or w (group + 1) 0) (get_or w (group + 2) 0) (take s w))
  one-sets = rw (← word_at 1 (omega arith), ← word_at 2 (omega arith)) h.sets

  pub one-bytes : (m : List ℕ)
      → group_bytes (number_in m) (set_at index (take s w)) (final_at regions (take s w) group)
      ≡ runs_bytes (subtable_of (number_in m) (set_at index (take s w)) (seg (get_or w group 0) regions w)) (seg (get_or w (group + 1) 0) (get_or w (group + 2) 0) (take s w))
  unfolding group_bytes final_at
  one-bytes m = rw (first-at, word_at 1 (omega arith), word_at 2 (omega arith), seg-take (get_or w group 0) regions s w one-shape room)

-- ---- all groups

-- group g's subtables
abbrev pub piece : ℕ → ℕ → ℕ → ℕ → List ℕ → ℕ → List ℕ
piece regions groups index s w g = group_bytes (number_in (seg (s + regions) regions w)) (set_at index (take s w)) (final_at regions (take s w) (groups + 3 * g))

pub record Grouping (regions groups count index s at : ℕ) (work₀ out₀ work out : List ℕ) (a g : ℕ) : Type 0 where
  pub only : Only ((s + 2 * regions, 2 * regions) ∷ []) work₀ work
  pub put : Putting at (chain (piece regions groups index s work₀) count) out₀ out a (left (piece regions groups index s work₀) count g)

module _ (regions groups count index s at : ℕ) (work₀ out₀ : List ℕ) (wide : s + 4 * regions ≤ length work₀)
    (room : at + length (chain (piece regions groups index s work₀) count) ≤ length out₀) where
  pub grouping-start : Grouping regions groups count index s at work₀ out₀ work₀ out₀ at 0
  grouping-start = record { only = only-refl ((s + 2 * regions, 2 * regions) ∷ []) work₀; put = chain-start (piece regions groups index s work₀) count at out₀ room }

  module _ (work out : List ℕ) (a g : ℕ) (m : Grouping regions groups count index s at work₀ out₀ work out a g) where
    head-is : take s work ≡ take s work₀
    head-is = head-stays s regions work₀ work m.only wide

    pub piece_is : (k : ℕ) → piece regions groups index s work k ≡ piece regions groups index s work₀ k
    piece_is k = ap₂ (λ (n w : List ℕ). group_bytes (number_in n) (set_at index w) (final_at regions w (groups + 3 * k))) (numbers_stay s regions work₀ work m.only wide) head-is

    pub still-handed : (k : ℕ) → Handed regions index (take s work₀) (groups + 3 * k) → Handed regions index (take s work) (groups + 3 * k)
    still-handed k h = subst (λ (w : List ℕ). Handed regions index w (groups + 3 * k)) (sym head-is) h

    pub grouping-room : g < count → a + length (piece regions groups index s work g) ≤ length out
    grouping-room h = omega (arith, ap length (piece_is g), chain-room (piece regions groups index s work₀) count at out₀ room out a g m.put h)

    pub grouping-more : (work' out' : List ℕ) (b : ℕ) → g < count → Put a (piece regions groups index s work g) out out' b
        → Only ((s + 2 * regions, 2 * regions) ∷ []) work work' → Grouping regions groups count index s at work₀ out₀ work' out' b (g + 1)
    grouping-more work' out' b h p o = record {
      only = only-trans m.only o;
      put = chain_more (piece regions groups index s work₀) count at out₀ room out a g m.put h out' b (subst (λ (x : List ℕ). Put a x out out' b) (piece_is g) p);
    }

    pub grouping-done : count ≤ g → Put at (chain (piece regions groups index s work₀) count) out₀ out a
    grouping-done h = chain-done (piece regions groups index s work₀) count at out₀ room out a g m.put h
