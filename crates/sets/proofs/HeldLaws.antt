-- Sets that are held below a word: they stay while only words behind it change. Assumes nothing.
use mathlib.Core.Path.{◌≡◌, refl, ap, ◌∙◌}
use mathlib.Core.List.{List, [], ◌∷◌}
use Prim.Native.Nat.{ℕ, zero, suc, ◌+◌, ◌*◌, ◌≤◌, ◌<◌}
use native.Mathlib.Omega.{arith}
use lib.ListN.{length, get_or}
use Rattle.laws.specs.LentRange.{Apart, Outside, Only}
use Rattle.laws.proofs.BoundedLaws.{length-tabulate, get_or-tabulate, tabulate-same}
use Rattle.sets.specs.Lent.{entries, entries_at, count_of, set_of, Stored, Clear, Ready, Held, sets_in, is_first_of_like, Behind, at_most}

pub behind-outside : {end : ℕ} (rs : List (ℕ × ℕ)) (k : ℕ) → Behind end rs → k < end → Outside rs k
behind-outside [] k b h = tt
behind-outside (r ∷ rs) k b h = (record { apart = λ p. absurd (omega (arith, b.0)) }, behind-outside rs k b.1 h)

-- the words below `end` are as they were
pub record Kept (end : ℕ) (old new : List ℕ) : Type 0 where
  pub long : length new ≡ length old
  pub below : (k : ℕ) → k < end → get_or new k 0 ≡ get_or old k 0

pub kept-only : {end : ℕ} {rs : List (ℕ × ℕ)} {old new : List ℕ} → Only rs old new → Behind end rs → Kept end old new
kept-only {end} {rs} o b = record { long = o.long; below = λ k h. o.kept k (behind-outside rs k b h) }

pub kept_trans : {end : ℕ} {u v w : List ℕ} → Kept end u v → Kept end v w → Kept end u w
kept_trans p q = record { long = q.long ∙ p.long; below = λ k h. q.below k h ∙ p.below k h }

-- the same words below `end`, whatever is behind them: a part of the slice serves too
pub record Alike (end : ℕ) (old new : List ℕ) : Type 0 where
  pub below : (k : ℕ) → k < end → get_or new k 0 ≡ get_or old k 0

entries_below : {end : ℕ} {old new : List ℕ} → Alike end old new → (m a : ℕ) → a + 2 * m ≤ end → entries a m new ≡ entries a m old
unfolding entries
entries_below k zero a h = refl
entries_below k (suc m) a h = rw (k.below a (omega arith), k.below (a + 1) (omega arith), entries_below k m (a + 2) (omega arith))

module _ {old new : List ℕ} {index n regions end : ℕ} (h : Held old index n regions end) (k : Alike end old new) where
  start_below : (x : ℕ) → x < n → entries_at index x new ≡ entries_at index x old
  start_below x l = k.below (index + 2 * x) (omega (arith, h.rows))

  count_below : (x : ℕ) → x < n → count_of index x new ≡ count_of index x old
  count_below x l = k.below (index + 2 * x + 1) (omega (arith, h.rows))

  pub set_below : (x : ℕ) → x < n → set_of index x new ≡ set_of index x old
  unfolding set_of
  set_below x l = rw (start_below x l, count_below x l) (entries_below k (count_of index x old) (entries_at index x old) (h.body x l))

  pub held_below : end ≤ length new → Held new index n regions end
  held_below room = record {
    room = room;
    rows = h.rows;
    body = λ x l. rw (start_below x l, count_below x l) (h.body x l);
    ascending = λ x l. rw (set_below x l) (h.ascending x l);
    proper = λ x l. rw (set_below x l) (h.proper x l);
  }

  pub most_below : (x y : ℕ) → x < n → y < n → at_most new index x y ≡ at_most old index x y
  unfolding at_most
  most_below x y p q = rw (set_below x p, set_below y q)

alike : {end : ℕ} {old new : List ℕ} → Kept end old new → Alike end old new
alike k = record { below = k.below }

module _ {old new : List ℕ} {index n regions end : ℕ} (h : Held old index n regions end) (k : Kept end old new) where
  pub set_same : (x : ℕ) → x < n → set_of index x new ≡ set_of index x old
  set_same = set_below h (alike k)

  pub held_kept : Held new index n regions end
  held_kept = held_below h (alike k) (omega (arith, h.room, k.long))

  pub sets_same : sets_in index n new ≡ sets_in index n old
  unfolding sets_in
  sets_same = tabulate-same 0 n (λ x. set_of index x new) (λ x. set_of index x old) (λ x p q. set_same x (omega arith))

  pub most-same : (x y : ℕ) → x < n → y < n → at_most new index x y ≡ at_most old index x y
  most-same = most_below h (alike k)

  pub first-same : (x : ℕ) → x < n → is_first_of_like index n new x ≡ is_first_of_like index n old x
  unfolding is_first_of_like
  first-same x p = rw (set_same x p, sets_same)

-- the sets as a list
pub sets-length : (index n : ℕ) (w : List ℕ) → length (sets_in index n w) ≡ n
unfolding sets_in
sets-length index n w = length-tabulate 0 n (λ x. set_of index x w)

pub sets-at : (index n : ℕ) (w : List ℕ) (x : ℕ) → x < n → get_or (sets_in index n w) x [] ≡ set_of index x w
unfolding sets_in
sets-at index n w x h =
    let e : 0 + x ≡ x = omega arith in
    get_or-tabulate 0 n (λ x. set_of index x w) [] x h ∙ ap (λ (y : ℕ). set_of index y w) e

-- what the comparison and the sort ask of a set
module _ {w : List ℕ} {index n regions end : ℕ} (h : Held w index n regions end) where
  pub held-stored : (x : ℕ) → x < n → Stored w index x
  held-stored x l = record {
    row = omega (arith, h.rows, h.room);
    to = omega (arith, h.body x l, h.room);
    ascending = h.ascending x l;
  }

  held-clear : (at m x : ℕ) → end ≤ at → x < n → Clear w index x at m
  held-clear at m x p l = record {
    row = record { apart = λ q. absurd (omega (arith, h.rows)) };
    body = record { apart = λ q. absurd (omega (arith, h.body x l)) };
  }

  pub held-ready : (at tmp m : ℕ) → end ≤ at → end ≤ tmp → at + m ≤ length w → tmp + m ≤ length w → Apart tmp m at m
      → ((k : ℕ) → at ≤ k → k < at + m → get_or w k 0 < n) → Ready w index at m tmp
  held-ready at tmp m p q r s a i = record {
    room = r;
    room-tmp = s;
    apart = a;
    item = λ k x y. let l = i k x y in record {
      stored = held-stored (get_or w k 0) l;
      clear = held-clear at m (get_or w k 0) p l;
      clear-tmp = held-clear tmp m (get_or w k 0) q l;
    };
  }
