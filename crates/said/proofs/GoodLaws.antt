-- What a walk keeps true of the sets: sorted, no zeros, regions in use. Assumes nothing.
use mathlib.Core.Path.{◌≡◌, refl, sym, ap, ◌∙◌}
use mathlib.Core.Bool.{Bool, true, false, ◌||◌}
use mathlib.Core.List.{List, [], ◌∷◌}
use Prim.Native.Nat.{ℕ, suc, ◌≤◌, ◌<◌}
use native.Mathlib.Omega.{arith}
use lib.ListN.{length, get_or}
use lib.Dec.{eqb, ltb}
use borrow.Author.Tests.{eq-eqb, ltb-true, ltb-false}
use Rattle.laws.specs.Pick.{pick}
use Rattle.laws.specs.Every.{All}
use Rattle.laws.specs.Signed.{zero_word}
use Rattle.laws.proofs.Cases.{Which, which, true-false}
use Rattle.laws.proofs.Cases.Which.{holds, fails}
use Rattle.laws.proofs.EveryLaws.{all_append}
use Rattle.sets.specs.Set.{Set, Ascending, Proper}
use Rattle.sets.proofs.SetLaws.{proper-more}
use Rattle.said.specs.Sets.{Region, has, with_use, index_in, with_entry, with_value}
use Rattle.said.specs.Job.{Said, after_value, after_end, regions_only}
use Rattle.said.specs.LentGood.{SetsGood}
use Rattle.said.proofs.IndexLaws.{with-has, with-old, with-long, index_at, index_below}

sets_more : (m n : ℕ) (l : List Set) → m ≤ n → All (Proper m) l → All (Proper n) l
sets_more m n [] h p = tt
sets_more m n (s ∷ l) h p = (proper-more m n s h p.0, sets_more m n l h p.1)

placed-rising : (k v t : ℕ) (b : Set) → t ≤ k → Ascending t b → All (λ e. e.0 ≡ k → ⊥) b → Ascending t (with_entry k v b)
unfolding with_entry
placed-rising k v t [] h a d = (h, tt)
placed-rising k v t (e ∷ b) h a d = go (λ l. placed-rising k v (suc e.0) b l a.1 d.1) (which (ltb k e.0))
  where
    go : (suc e.0 ≤ k → Ascending (suc e.0) (with_entry k v b)) → Which (ltb k e.0) → Ascending t (pick (ltb k e.0) ((k, v) ∷ e ∷ b) (e ∷ with_entry k v b))
    go rec (holds l) = rw l (h, (ltb-true k e.0 l, a.1))
    go rec (fails l) =
        let q = ltb-false k e.0 l in
        let n = d.0 in
        rw l (a.0, rec (omega arith))

pub placed-all : (P : ℕ × ℕ → Type 0) (k v : ℕ) (b : Set) → P (k, v) → All P b → All P (with_entry k v b)
unfolding with_entry
placed-all P k v [] p a = (p, tt)
placed-all P k v (e ∷ b) p a = go (placed-all P k v b p a.1) (which (ltb k e.0))
  where
    go : All P (with_entry k v b) → Which (ltb k e.0) → All P (pick (ltb k e.0) ((k, v) ∷ e ∷ b) (e ∷ with_entry k v b))
    go rec (holds l) = rw l (p, a)
    go rec (fails l) = rw l (a.0, rec)

placed-proper : (n k v : ℕ) (b : Set) → (v ≡ zero_word → ⊥) → k < n → Proper n b → Proper n (with_entry k v b)
unfolding with_entry
placed-proper n k v [] z h p = ((z, h), tt)
placed-proper n k v (e ∷ b) z h p = go (placed-proper n k v b z h p.1) (which (ltb k e.0))
  where
    go : Proper n (with_entry k v b) → Which (ltb k e.0) → Proper n (pick (ltb k e.0) ((k, v) ∷ e ∷ b) (e ∷ with_entry k v b))
    go rec (holds l) = rw l ((z, h), p)
    go rec (fails l) = rw l (p.0, rec)

pub has_more : (p q : ℕ) (l : List ℕ) → has p l ≡ true → has p (q ∷ l) ≡ true
unfolding has
has_more p q l h = go (eqb p q) h
  where
    go : (b : Bool) → has p l ≡ true → (b || has p l) ≡ true
    go true h = refl
    go false h = h

pub has_first : (q : ℕ) (l : List ℕ) → has q (q ∷ l) ≡ true
unfolding has
has_first q l = rw (eq-eqb q q refl)

-- entries name regions in use that the set has named: so after one more, and none has the index of a region that is new to the set
fresh-more : (used named : List ℕ) (q : ℕ) (b : Set) → Proper (length used) b → All (λ e. has (get_or used e.0 0) named ≡ true) b
    → All (λ e. has (get_or (with_use used q) e.0 0) (q ∷ named) ≡ true) b
fresh-more used named q [] p f = tt
fresh-more used named q (e ∷ b) p f =
    (rw (with-old used q e.0 p.0.1) (has_more (get_or used e.0 0) q named f.0), fresh-more used named q b p.1 f.1)

pub fresh-differs : (used named : List ℕ) (q : ℕ) (b : Set) → has q named ≡ false → Proper (length used) b → All (λ e. has (get_or used e.0 0) named ≡ true) b
    → All (λ e. e.0 ≡ index_in q (with_use used q) → ⊥) b
fresh-differs used named q [] n p f = tt
fresh-differs used named q (e ∷ b) n p f = (
  (λ k.
      let at : get_or used e.0 0 ≡ q =
      sym (with-old used q e.0 p.0.1) ∙ ap (λ (j : ℕ). get_or (with_use used q) j 0) k ∙ index_at q (with_use used q) (with-has used q) in
      true-false (rw at at f.0) n),
  fresh-differs used named q b n p.1 f.1,
)

pub good_start : (regions : List Region) → SetsGood (regions_only regions)
unfolding regions_only
good_start regions = record { rising = tt; proper = tt; fresh = tt; sets-rising = tt; sets-proper = tt }

pub good-end : (s : Said) → SetsGood s → SetsGood (after_end s)
unfolding after_end
good-end s g = record {
  rising = tt;
  proper = tt;
  fresh = tt;
  sets-rising = all_append (Ascending 0) s.sets (s.begun ∷ []) g.sets-rising (g.rising, tt);
  sets-proper = all_append (Proper (length s.used)) s.sets (s.begun ∷ []) g.sets-proper (g.proper, tt);
}

pub good-value : (s : Said) (q v : ℕ) → SetsGood s → has q s.named ≡ false → SetsGood (after_value s q v)
unfolding after_value with_value
good-value s q v g n = go (which (eqb v zero_word))
  where
    u : List ℕ
    u = with_use s.used q

    k : ℕ
    k = index_in q u

    long : length s.used ≤ length (with_use s.used q)
    long = with-long s.used q

    go : Which (eqb v zero_word) → SetsGood (after_value s q v)
    go (holds z) = record {
      rising = rw z g.rising;
      proper = rw z (proper-more (length s.used) (length (with_use s.used q)) s.begun long g.proper);
      fresh = rw z (fresh-more s.used s.named q s.begun g.proper g.fresh);
      sets-rising = g.sets-rising;
      sets-proper = sets_more (length s.used) (length (with_use s.used q)) s.sets long g.sets-proper;
    }
    go (fails z) = record {
      rising = rw z (placed-rising (index_in q (with_use s.used q)) v 0 s.begun (omega arith) g.rising (fresh-differs s.used s.named q s.begun n g.proper g.fresh));
      proper = rw z (placed-proper (length (with_use s.used q)) (index_in q (with_use s.used q)) v s.begun (λ e. true-false (eq-eqb v zero_word e) z) (index_below q (with_use s.used q) (with-has s.used q))
          (proper-more (length s.used) (length (with_use s.used q)) s.begun long g.proper));
      fresh = rw z (placed-all (λ e. has (get_or (with_use s.used q) e.0 0) (q ∷ s.named) ≡ true) (index_in q (with_use s.used q)) v s.begun
          (rw (index_at q (with_use s.used q) (with-has s.used q)) (has_first q s.named))
          (fresh-more s.used s.named q s.begun g.proper g.fresh));
      sets-rising = g.sets-rising;
      sets-proper = sets_more (length s.used) (length (with_use s.used q)) s.sets long g.sets-proper;
    }
