-- Screening, set by set: what is to be sorted stands in front and in order, what is not has an earlier equal set. Assumes nothing.
use mathlib.Core.Path.{◌≡◌, refl, sym, ap, ◌∙◌}
use mathlib.Core.Bool.{Bool, true, false}
use Rattle.std.specs.Prelude.{Option, None, Some, IfSome}
use mathlib.Core.List.{List, [], ◌∷◌, ◌++◌, append-nil}
use mathlib.Core.Logic.{⊎_elim}
use Prim.Native.Nat.{ℕ, zero, suc, ◌+◌, ◌-◌, ◌*◌, ◌/◌, ◌%◌, ◌≤◌, ◌<◌}
use native.Mathlib.Omega.{arith}
use native.Mathlib.Nat.{zero-mod, zero-mul, add-mul, mod-lt, mod-eq_of_lt, mul-le-mul_right, div-mul-le_self, lt-div-mul-add, mul-add-mod_self_right}
use lib.ListN.{length, get_or, set, length-set}
use lib.Seq.{get_or-set_same, get_or-set_other}
use lib.Dec.{eqb}
use borrow.Author.Tests.{eq-eqb, ne_eqb}
use Rattle.std.specs.declared.cmp.Ordering.TheVariants.{Equal}
use Rattle.laws.specs.Bounded.{tabulate, up_to}
use Rattle.laws.specs.LentRange.{Only, seg, Zeroed}
use Rattle.laws.specs.Sorting.{keep}
use Rattle.laws.proofs.Cases.{same_or_not, lt-or-ge}
use Rattle.laws.proofs.EveryLaws.{all-imp}
use Rattle.laws.proofs.RangeLaws.{only-refl, only-trans, only-weaken, only_set, seg-ext, seg-snoc, seg-none}
use Rattle.laws.proofs.SortLaws.{keep_append, keep_same}
use Rattle.laws.proofs.SortMap.{keep-in, keep_out}
use Rattle.laws.proofs.UpLaws.{up-all, up-snoc}
use Rattle.sets.specs.Order.{order}
use Rattle.sets.specs.Lent.{set_of, Stored, IdsFit}
use Rattle.sets.proofs.HeldLaws.{Kept, kept-only, set_same, held_kept, held-stored}
use Rattle.buckets.specs.LentBuckets.{is_kept}
use Rattle.ids.specs.LentScreened.{Screened}
use Rattle.ids.proofs.FirstLaws.{order_same}

-- ---- a word of the table: a number up to n, and a tag

-- n is a word, so there is at least one tag
pub tags-some : (n : ℕ) → n < 4294967296 → 0 < 4294967296 / (n + 1)
tags-some n few = some (4294967296 / (n + 1)) (lt-div-mul-add {a = 4294967296} {b = n + 1} (omega arith))
  where
    some : (q : ℕ) → 4294967296 < q * (n + 1) + (n + 1) → 0 < q
    some zero h = absurd (omega (arith, zero-mul (n + 1)))
    some (suc q) h = omega arith

-- a tag, and a number up to n behind it, have room in a word
pub tag-room : (h n : ℕ) → n < 4294967296 → h % (4294967296 / (n + 1)) * (n + 1) + n < 4294967296
tag-room h n few =
    let t = h % (4294967296 / (n + 1)) in
    let less : t < 4294967296 / (n + 1) = mod-lt h (tags-some n few) in
    let most : (t + 1) * (n + 1) ≤ 4294967296 / (n + 1) * (n + 1) = mul-le-mul_right (n + 1) (omega arith) in
    omega (arith, most, add-mul t 1 (n + 1), div-mul-le_self 4294967296 (n + 1))

-- the number is what the word has beside its tag
pub word_number : (t n x : ℕ) → x < n → (t * (n + 1) + (x + 1)) % (n + 1) ≡ x + 1
word_number t n x h = mul-add-mod_self_right t (n + 1) (x + 1) ∙ mod-eq_of_lt (omega arith)

-- ---- keeping what is marked, one more

kept_same : (first : ℕ) (u w : List ℕ) (n : ℕ) → ((k : ℕ) → k < n → get_or w (first + k) 0 ≡ get_or u (first + k) 0) → keep (is_kept first w) (up_to n) ≡ keep (is_kept first u) (up_to n)
unfolding is_kept
kept_same first u w n h = keep_same (is_kept first w) (is_kept first u) (up_to n) (all-imp (λ k l. ap (λ (v : ℕ). eqb v k) (h k l)) (up_to n) (up-all n))

pub is-kept : (first : ℕ) (w : List ℕ) (k : ℕ) → get_or w (first + k) 0 ≡ k → is_kept first w k ≡ true
unfolding is_kept
is-kept first w k e = eq-eqb (get_or w (first + k) 0) k e

pub not-kept : (first : ℕ) (w : List ℕ) (k : ℕ) → (get_or w (first + k) 0 ≡ k → ⊥) → is_kept first w k ≡ false
unfolding is_kept
not-kept first w k e = ne_eqb (get_or w (first + k) 0) k e

keep_one : (first : ℕ) (w : List ℕ) (n : ℕ) → keep (is_kept first w) (up_to (n + 1)) ≡ keep (is_kept first w) (up_to n) ++ keep (is_kept first w) (n ∷ [])
keep_one first w n = ap (keep (is_kept first w)) (up-snoc n) ∙ keep_append (is_kept first w) (up_to n) (n ∷ [])

keep-nothing : (f : ℕ → Bool) → keep f [] ≡ []
unfolding keep
keep-nothing f = refl

-- what was seen is what a twin is
pub twin-seen : (v n y : ℕ) (o : Option ℕ) → o ≡ Some y → IfSome o (λ z. z + 1 ≡ v % (n + 1)) → y + 1 ≡ v % (n + 1)
twin-seen v n y o e h = rw e at h

-- ---- the loop

pub record Screening (index n at first seen : ℕ) (old new : List ℕ) (x m : ℕ) : Type 0 where
  pub within : x ≤ n
  pub few : m ≤ x
  pub only : Only ((at, n) ∷ (first, n) ∷ (seen, n) ∷ []) old new
  pub line : seg at m new ≡ keep (is_kept first new) (up_to x)
  pub rest : (q : ℕ) → n ≤ q + (x - m) → q < n → (get_or new (at + q) 0 < x) × (get_or new (first + get_or new (at + q) 0) 0 < get_or new (at + q) 0)
  pub noted : (k : ℕ) → k < x → (get_or new (first + k) 0 ≡ k → ⊥) → (get_or new (first + k) 0 < k) × (set_of index (get_or new (first + k) 0) old ≡ set_of index k old)
  pub seen_few : (h : ℕ) → h < n → get_or new (seen + h) 0 % (n + 1) ≤ x

module _ {old : List ℕ} {index n at first seen : ℕ} (r : IdsFit old index n at first seen) where
  pub screen-start : ((h : ℕ) → h < n → get_or old (seen + h) 0 ≡ 0) → Screening index n at first seen old old 0 0
  unfolding tabulate keep
  screen-start z = record {
    within = omega arith;
    few = omega arith;
    only = only-refl ((at, n) ∷ (first, n) ∷ (seen, n) ∷ []) old;
    line = seg-none at old;
    rest = λ q l h. absurd (omega arith);
    noted = λ k h. absurd (omega arith);
    seen_few = λ h l. rw (z h l) (omega (arith, zero-mod (n + 1)));
  }

  module _ {new : List ℕ} {x m : ℕ} (s : Screening index n at first seen old new x m) where
    kept : Kept r.end old new
    kept = kept-only s.only (r.behind, (omega (arith, r.behind, r.at-to), (omega (arith, r.behind, r.at-to, r.first_to), tt)))

    pub stored : (k : ℕ) → k < n → Stored new index k
    stored k h = held-stored (held_kept r.held kept) k h

    long : length new ≡ length old
    long = s.only.long

    -- the set that was seen at slot h is one before x
    pub seen_low : (h : ℕ) → h < n → (v y : ℕ) → v ≡ get_or new (seen + h) 0 → y + 1 ≡ v % (n + 1) → y < x
    seen_low h l v y v-is y-is = omega (arith, y-is ∙ ap (λ (z : ℕ). z % (n + 1)) v-is, s.seen_few h l)

    -- it is stored
    pub seen_stored : (h : ℕ) → h < n → x < n → (v : ℕ) → v ≡ get_or new (seen + h) 0 → (o : Option ℕ) → IfSome o (λ y. y + 1 ≡ v % (n + 1)) → IfSome o (λ y. Stored new index y)
    seen_stored h l b v v-is None e = tt
    seen_stored h l b v v-is (Some y) e = stored y (omega (arith, seen_low h l v y v-is e))

    module _ (h : x < n) (k : ℕ) (lk : k < n) where
      pub screen-new : (z : ℕ) → z % (n + 1) ≡ x + 1 → Screening index n at first seen old (set (set (set new (seen + k) z) (first + x) x) (at + m) x) (x + 1) (m + 1)
      screen-new z z-is =
          let a = r.at-to in
          let b = r.first_to in
          let c = r.room in
          let f = s.few in
          let l = s.only.long in
          let u = set new (seen + k) z in
          let v = set u (first + x) x in
          let w = set v (at + m) x in
          let lu : length u ≡ length new = length-set new (seen + k) z in
          let lv : length v ≡ length u = length-set u (first + x) x in
          let lw : length w ≡ length v = length-set v (at + m) x in
          let other : (i : ℕ) → (i ≡ seen + k → ⊥) → (i ≡ first + x → ⊥) → (i ≡ at + m → ⊥) → get_or w i 0 ≡ get_or new i 0 = λ i p q t.
          get_or-set_other v (at + m) i x 0 t ∙ get_or-set_other u (first + x) i x 0 q ∙ get_or-set_other new (seen + k) i z 0 p in
          let at-is : get_or w (at + m) 0 ≡ x = get_or-set_same v (at + m) x 0 (omega arith) in
          let first-is : get_or w (first + x) 0 ≡ x = get_or-set_other v (at + m) (first + x) x 0 (omega arith) ∙ get_or-set_same u (first + x) x 0 (omega arith) in
          let seen-is : get_or w (seen + k) 0 ≡ z = get_or-set_other v (at + m) (seen + k) x 0 (omega arith) ∙ get_or-set_other u (first + x) (seen + k) x 0 (omega arith) ∙ get_or-set_same new (seen + k) z 0 (omega arith) in
          let firsts : (j : ℕ) → j < x → get_or w (first + j) 0 ≡ get_or new (first + j) 0 = λ j p. other (first + j) (omega arith) (omega arith) (omega arith) in
          let spots : (q : ℕ) → q < n → (q ≡ m → ⊥) → get_or w (at + q) 0 ≡ get_or new (at + q) 0 = λ q p t. other (at + q) (omega arith) (omega arith) (λ z. t (omega arith)) in
          record {
            within = omega arith;
            few = omega arith;
            only = only-trans s.only
                (only-trans (only_set ((at, n) ∷ (first, n) ∷ (seen, n) ∷ []) new (seen + k) z (λ o. omega (arith, o.1.1.0.apart (omega arith))))
                (only-trans (only_set ((at, n) ∷ (first, n) ∷ (seen, n) ∷ []) u (first + x) x (λ o. omega (arith, o.1.0.apart (omega arith))))
                (only_set ((at, n) ∷ (first, n) ∷ (seen, n) ∷ []) v (at + m) x (λ o. omega (arith, o.0.apart (omega arith))))));
            line =
                seg-snoc at m w (omega arith)
                ∙ ap (λ (z : List ℕ). z ++ (get_or w (at + m) 0 ∷ [])) (seg-ext at at m w new (omega arith) (omega arith) (λ q p. spots q (omega arith) (omega arith)) ∙ s.line ∙ sym (kept_same first new w x firsts))
                ∙ ap (λ (z : ℕ). keep (is_kept first w) (up_to x) ++ (z ∷ [])) at-is
                ∙ sym (keep_one first w x ∙ ap (λ (z : List ℕ). keep (is_kept first w) (up_to x) ++ z) (keep-in (is_kept first w) x [] (is-kept first w x first-is) ∙ ap (λ (z : List ℕ). x ∷ z) (keep-nothing (is_kept first w))));
            rest = λ q p t.
                let o = s.rest q (omega arith) t in
                let e = spots q t (omega arith) in
                (omega (arith, o.0), rw e (rw (firsts (get_or new (at + q) 0) o.0) o.1));
            noted = λ j p d. ⊎_elim
                (λ (b : j < x). let o = s.noted j b (λ z. d (firsts j b ∙ z)) in rw (firsts j b) o)
                (λ b. let z : j ≡ x = omega arith in absurd (d (ap (λ (y : ℕ). get_or w (first + y) 0) z ∙ first-is ∙ sym z)))
                (lt-or-ge j x);
            seen_few = λ j p. ⊎_elim
                (λ (e : j ≡ k). rw (e, seen-is) (omega (arith, z-is)))
                (λ d. rw (other (seen + j) (λ z. d (omega arith)) (omega arith) (omega arith)) (omega (arith, s.seen_few j p)))
                (same_or_not j k);
          }

      pub screen-twin : (v y : ℕ) → v ≡ get_or new (seen + k) 0 → y + 1 ≡ v % (n + 1) → order (set_of index y new) (set_of index x new) ≡ Equal
          → Screening index n at first seen old (set (set new (first + x) y) (at + (n - 1 - (x - m))) x) (x + 1) m
      screen-twin v y v-is y-is eq =
          let a = r.at-to in
          let b = r.first_to in
          let c = r.room in
          let f = s.few in
          let l = s.only.long in
          let low : y < x = seen_low k lk v y v-is y-is in
          let p = at + (n - 1 - (x - m)) in
          let u = set new (first + x) y in
          let w = set u p x in
          let lu : length u ≡ length new = length-set new (first + x) y in
          let lw : length w ≡ length u = length-set u p x in
          let other : (i : ℕ) → (i ≡ first + x → ⊥) → (i ≡ at + (n - 1 - (x - m)) → ⊥) → get_or w i 0 ≡ get_or new i 0 = λ i q t.
          get_or-set_other u p i x 0 t ∙ get_or-set_other new (first + x) i y 0 q in
          let at-is : get_or w p 0 ≡ x = get_or-set_same u p x 0 (omega arith) in
          let first-is : get_or w (first + x) 0 ≡ y = get_or-set_other u p (first + x) x 0 (omega arith) ∙ get_or-set_same new (first + x) y 0 (omega arith) in
          let firsts : (j : ℕ) → j < x → get_or w (first + j) 0 ≡ get_or new (first + j) 0 = λ j q. other (first + j) (omega arith) (omega arith) in
          let same : set_of index y old ≡ set_of index x old =
          sym (set_same r.held kept y (omega arith)) ∙ order_same (held_kept r.held kept) y x (omega arith) h eq ∙ set_same r.held kept x h in
          record {
            within = omega arith;
            few = omega arith;
            only = only-trans s.only
                (only-trans (only_set ((at, n) ∷ (first, n) ∷ (seen, n) ∷ []) new (first + x) y (λ o. omega (arith, o.1.0.apart (omega arith))))
                (only_set ((at, n) ∷ (first, n) ∷ (seen, n) ∷ []) u p x (λ o. omega (arith, o.0.apart (omega arith)))));
            line =
                seg-ext at at m w new (omega arith) (omega arith) (λ q t. other (at + q) (omega arith) (omega arith)) ∙ s.line ∙ sym (kept_same first new w x firsts)
                ∙ sym (keep_one first w x ∙ ap (λ (z : List ℕ). keep (is_kept first w) (up_to x) ++ z) (keep_out (is_kept first w) x [] (not-kept first w x (λ z. omega (arith, first-is))) ∙ (keep-nothing (is_kept first w))) ∙ append-nil (keep (is_kept first w) (up_to x)));
            rest = λ q t e. ⊎_elim
                (λ (z : q ≡ n - 1 - (x - m)).
                let i : get_or w (at + q) 0 ≡ x = ap (λ (o : ℕ). get_or w (at + o) 0) z ∙ at-is in
                (omega arith, rw i (omega (arith, first-is))))
                (λ d.
                let o = s.rest q (omega arith) e in
                let i = other (at + q) (omega arith) (λ z. d (omega arith)) in
                (omega (arith, o.0), rw i (rw (firsts (get_or new (at + q) 0) o.0) o.1)))
                (same_or_not q (n - 1 - (x - m)));
            noted = λ j q d. ⊎_elim
                (λ (b : j < x). let o = s.noted j b (λ z. d (firsts j b ∙ z)) in rw (firsts j b) o)
                (λ b. let z : j ≡ x = omega arith in rw z (omega (arith, first-is), ap (λ (i : ℕ). set_of index i old) first-is ∙ same))
                (lt-or-ge j x);
            seen_few = λ j q. rw (other (seen + j) (omega arith) (omega arith)) (omega (arith, s.seen_few j q));
          }

    pub screen-done : n ≤ x → Screened index n at first seen old new m
    screen-done l =
        let e : x ≡ n = omega (arith, s.within) in
        record {
          only = s.only;
          few = omega (arith, s.few);
          line = s.line ∙ ap (λ (z : ℕ). keep (is_kept first new) (up_to z)) e;
          rest = λ q p h. let o = s.rest q (omega (arith, s.few)) h in (omega (arith, o.0), o.1);
          noted = λ k h d. s.noted k (omega arith) d;
        }

-- ---- with nothing seen before

module _ {old mid : List ℕ} {index n at first seen : ℕ} (r : IdsFit old index n at first seen) (z : Zeroed seen n old mid) where
  unseen : Kept r.end old mid
  unseen = kept-only z.only (omega (arith, r.behind, r.at-to, r.first_to), tt)

  pub sift-fit : IdsFit mid index n at first seen
  sift-fit = record {
    regions = r.regions;
    end = r.end;
    held = held_kept r.held unseen;
    few = r.few;
    behind = r.behind;
    at-to = r.at-to;
    first_to = r.first_to;
    room = omega (arith, r.room, z.only.long);
  }

  pub screened : {new : List ℕ} {m : ℕ} → Screened index n at first seen mid new m → Screened index n at first seen old new m
  screened {new} {m} s = record {
    only = only-trans (only-weaken (λ k o. (o.1.1.0, tt)) z.only) s.only;
    few = s.few;
    line = s.line;
    rest = s.rest;
    noted = λ k h d.
        let o = s.noted k h d in
        (o.0, sym (set_same r.held unseen (get_or new (first + k) 0) (omega (arith, o.0))) ∙ o.1 ∙ set_same r.held unseen k h);
  }
