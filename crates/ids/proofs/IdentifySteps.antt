-- From n held sets to their ids, call by call. Assumes nothing.
use mathlib.Core.Path.{◌≡◌, refl, sym, ap, subst, ◌∙◌}
use mathlib.Core.Bool.{Bool, true, false, ◌&&◌}
use mathlib.Core.List.{List, [], ◌∷◌, ◌++◌, append-nil}
use mathlib.Core.Logic.{⊎_elim}
use Prim.Native.Nat.{ℕ, zero, suc, ◌+◌, ◌-◌, ◌≤◌, ◌<◌}
use native.Mathlib.Omega.{arith}
use lib.ListN.{length, get_or}
use borrow.Author.Tests.{ne_eqb, eqb-true}
use Rattle.laws.specs.Every.{All, EachTwo}
use Rattle.laws.specs.Bounded.{up_to}
use Rattle.laws.specs.LentRange.{Apart, seg}
use Rattle.laws.specs.Sorting.{sorted, keep}
use Rattle.laws.proofs.Cases.{same_or_not, lt-or-ge, Which, which}
use Rattle.laws.proofs.Cases.Which.{holds, fails}
use Rattle.laws.proofs.EveryLaws.{all-imp, all-get_or}
use Rattle.laws.proofs.RangeLaws.{only-trans, only-weaken, only-seg, get_or-seg, length-seg, seg-add, seg_all, all-seg}
use Rattle.laws.proofs.SortLaws.{sorted-same, sorted_all, keep_append, keep_same}
use Rattle.laws.proofs.SortMap.{keep_all, keep_two, keep-passes, keep-keep, keep-sorted, keep_out}
use Rattle.laws.proofs.UpLaws.{up-long, up_at, up-all}
use Rattle.sets.specs.Set.{Set}
use Rattle.sets.specs.Ids.{place}
use Rattle.sets.specs.Lent.{set_of, Held, sets_in, is_first_of_like, at_most, IdsFit, Identified}
use Rattle.ids.specs.LentFirsts.{FirstsFit, FirstsAt, Resolved, GivesIds}
use Rattle.buckets.specs.LentBuckets.{is_kept, KeptFit, KeptSorted}
use Rattle.ids.specs.LentScreened.{Screened}
use Rattle.sets.proofs.IdLaws.{place-first, place_here}
use Rattle.sets.proofs.HeldLaws.{Kept, kept-only, kept_trans, held_kept, set_same, sets_same, most-same, sets-length, sets-at}
use Rattle.ids.proofs.FirstLaws.{up-two, le_trans, le_total, line-has, line-length}
use Rattle.ids.proofs.ScreenLaws.{is-kept, not-kept}

-- ---- lists

-- what passes is kept
keep-has : (p : ℕ → Bool) (l : List ℕ) (i : ℕ) → i < length l → p (get_or l i 0) ≡ true → (q : ℕ) × (q < length (keep p l)) × (get_or (keep p l) q 0 ≡ get_or l i 0)
unfolding keep
keep-has p [] i h e = absurd (omega arith)
keep-has p (x ∷ l) zero h e = rw e (0, omega arith, refl)
keep-has p (x ∷ l) (suc i) h e = go (keep-has p l i (omega arith) e) (which (p x))
  where
    go : (q : ℕ) × (q < length (keep p l)) × (get_or (keep p l) q 0 ≡ get_or l i 0) → Which (p x) → (q : ℕ) × (q < length (keep p (x ∷ l))) × (get_or (keep p (x ∷ l)) q 0 ≡ get_or l i 0)
    go r (holds y) = rw y (suc r.0, omega (arith, r.1), r.2)
    go r (fails y) = rw y r

keep-none : (p : ℕ → Bool) (l : List ℕ) → All (λ x. p x ≡ false) l → keep p l ≡ []
keep-none p [] h = unfold keep in refl
keep-none p (x ∷ l) h = keep_out p x l h.0 ∙ keep-none p l h.1

kept-is : (first : ℕ) (w : List ℕ) (k : ℕ) → is_kept first w k ≡ true → get_or w (first + k) 0 ≡ k
unfolding is_kept
kept-is first w k e = eqb-true (get_or w (first + k) 0) k e

module _ {w₀ : List ℕ} {index n at first ids : ℕ} (r : IdsFit w₀ index n at first ids) where
  abbrev sets : List Set
  sets = sets_in index n w₀

  abbrev first_of : ℕ → ℕ
  first_of x = place (set_of index x w₀) (sets_in index n w₀)

  first-low : (x : ℕ) → x < n → first_of x ≤ x
  first-low x h = place-first (set_of index x w₀) sets x (omega (arith, sets-length index n w₀)) (sets-at index n w₀ x h)

  -- the first of a first is itself
  first-twice : (x : ℕ) → x < n → first_of (first_of x) ≡ first_of x
  first-twice x h =
      let l = first-low x h in
      ap (λ (s : Set). place s sets) (sym (sets-at index n w₀ (first_of x) (omega arith)) ∙ place_here (set_of index x w₀) sets (omega (arith, sets-length index n w₀)))

  -- a set that equals an earlier one is no first
  later : (x y : ℕ) → x < n → y < x → set_of index y w₀ ≡ set_of index x w₀ → first_of x < x
  later x y h l e = omega (arith, place-first (set_of index x w₀) sets y (omega (arith, sets-length index n w₀)) (sets-at index n w₀ y (omega arith) ∙ e))

  module _ {w₁ : List ℕ} {m : ℕ} (c : Screened index n at first ids w₀ w₁ m) where
    kept₁ : Kept r.end w₀ w₁
    kept₁ = kept-only c.only (r.behind, (omega (arith, r.behind, r.at-to), (omega (arith, r.behind, r.at-to, r.first_to), tt)))

    held₁ : Held w₁ index n r.regions r.end
    held₁ = held_kept r.held kept₁

    abbrev some : List ℕ
    some = keep (is_kept first w₁) (up_to n)

    low : All (λ x. x < n) some
    low = keep_all (is_kept first w₁) (λ x. x < n) (up_to n) (up-all n)

    rising : EachTwo (λ x y. x < y) some
    rising = keep_two (is_kept first w₁) (λ x y. x < y) (up_to n) (up-two 0 n)

    many : length (keep (is_kept first w₁) (up_to n)) ≡ m
    many = ap length (sym c.line) ∙ length-seg at m w₁ (omega (arith, c.few, r.at-to, r.first_to, r.room, c.only.long))

    -- a set that is not sorted is no first
    not_first : (x : ℕ) → x < n → (get_or w₁ (first + x) 0 ≡ x → ⊥) → first_of x < x
    not_first x h d = let o = c.noted x h d in later x (get_or w₁ (first + x) 0) h o.0 o.1

    pub sort-fit : KeptFit w₁ index n at m first ids
    sort-fit = record {
      regions = r.regions;
      end = r.end;
      held = held₁;
      few = r.few;
      most = c.few;
      behind = r.behind;
      at-to = r.at-to;
      first_to = r.first_to;
      room = omega (arith, r.room, c.only.long);
      line = c.line;
    }

    module _ {w₂ : List ℕ} (s : KeptSorted index n at m first ids w₁ w₂) where
      kept₂ : Kept r.end w₁ w₂
      kept₂ = kept-only s.only (r.behind, (omega (arith, r.behind, r.at-to), (omega (arith, r.behind, r.at-to, r.first_to), tt)))

      held₂ : Held w₂ index n r.regions r.end
      held₂ = held_kept held₁ kept₂

      kept₀₂ : Kept r.end w₀ w₂
      kept₀₂ = kept_trans kept₁ kept₂

      -- the tests agree on the sets' numbers
      sorted-kept : {u v : List ℕ} → Held u index n r.regions r.end → Kept r.end u v → (l : List ℕ) → All (λ x. x < n) l → sorted (at_most v index) l ≡ sorted (at_most u index) l
      sorted-kept {u} {v} h k l a = sorted-same (at_most v index) (at_most u index) (λ x. x < n) (λ x y p q. most-same h k x y p q) (sorted_all (at_most u index) (λ x. x < n)) l a

      line₀ : seg at m w₂ ≡ sorted (at_most w₀ index) some
      line₀ = s.sorts ∙ ap (sorted (at_most w₁ index)) c.line ∙ sorted-kept r.held kept₁ some low

      first-same : (x : ℕ) → x < n → place (set_of index x w₂) (sets_in index n w₂) ≡ first_of x
      first-same x h = rw (set_same r.held kept₀₂ x h, sets_same r.held kept₀₂) refl

      abbrev fits : FirstsFit w₂ index at m first
      fits = record {
        all = n;
        regions = r.regions;
        end = r.end;
        held = held₂;
        behind = r.behind;
        at-to = omega (arith, c.few, r.at-to);
        room = omega (arith, r.first_to, r.room, c.only.long, s.only.long);
        numbers = some;
        many = many;
        low = low;
        rising = rising;
        firsts-in = λ f h e. ⊎_elim
            (λ (k : get_or w₁ (first + f) 0 ≡ f).
            let b : f < length (up_to n) = omega (arith, up-long n) in
            let q = keep-has (is_kept first w₁) (up_to n) f b (rw (up_at n f h) (is-kept first w₁ f k)) in
            (q.0, q.1, q.2 ∙ up_at n f h))
            (λ d. let t = not_first f h d in absurd (omega (arith, first-same f h)))
            (same_or_not (get_or w₁ (first + f) 0) f);
        line = line₀ ∙ sym (sorted-kept r.held kept₀₂ some low);
      }

      pub firsts-fit : FirstsFit w₂ index at m first
      firsts-fit = fits

      pub firsts-done : {w₃ : List ℕ} → ((g : FirstsFit w₂ index at m first) → FirstsAt index at m first g.all w₂ w₃) → FirstsAt index at m first n w₂ w₃
      firsts-done g = g fits

      -- what is to be sorted stands in the sorted line
      stands : (x : ℕ) → x < n → get_or w₁ (first + x) 0 ≡ x → (p : ℕ) × (p < m) × (get_or w₂ (at + p) 0 ≡ x)
      stands x h k =
          let b : x < length (up_to n) = omega (arith, up-long n) in
          let q = keep-has (is_kept first w₁) (up_to n) x b (rw (up_at n x h) (is-kept first w₁ x k)) in
          let p = line-has r.held some low rising q.0 q.1 in
          let g : p.0 < m = omega (arith, p.1, many) in
          (p.0, g, sym (get_or-seg at m w₂ p.0 g) ∙ ap (λ (l : List ℕ). get_or l p.0 0) line₀ ∙ p.2 ∙ q.2 ∙ up_at n x h)

      -- and nothing else does
      alone : (p : ℕ) → p < m → get_or w₁ (first + get_or w₂ (at + p) 0) 0 ≡ get_or w₂ (at + p) 0
      alone p h =
          let k = sorted_all (at_most w₀ index) (λ x. get_or w₁ (first + x) 0 ≡ x) some (all-imp (λ x e. kept-is first w₁ x e) some (keep-passes (is_kept first w₁) (up_to n))) in
          let g : p < length (sorted (at_most w₀ index) some) = omega (arith, line-length r.held some low rising, many) in
          let e : get_or w₂ (at + p) 0 ≡ get_or (sorted (at_most w₀ index) some) p 0 = sym (get_or-seg at m w₂ p h) ∙ ap (λ (l : List ℕ). get_or l p 0) line₀ in
          rw e (all-get_or (λ x. get_or w₁ (first + x) 0 ≡ x) (sorted (at_most w₀ index) some) p 0 k g)

      first-kept₂ : (x : ℕ) → x < n → (get_or w₁ (first + x) 0 ≡ x → ⊥) → get_or w₂ (first + x) 0 ≡ get_or w₁ (first + x) 0
      first-kept₂ x h d = s.others x h (not-kept first w₁ x d)

      module _ {w₃ : List ℕ} (f : FirstsAt index at m first n w₂ w₃) where
        -- what is noted of a set: its first, or an earlier set that equals it
        sorted-first : (x : ℕ) → x < n → get_or w₁ (first + x) 0 ≡ x → get_or w₃ (first + x) 0 ≡ first_of x
        sorted-first x h k =
            let p = stands x h k in
            let e = f.found p.0 p.1 in
            let g : get_or w₃ (first + x) 0 ≡ place (set_of index x w₂) (sets_in index n w₂) = rw p.2 at e in
            g ∙ first-same x h

        noted-first : (x : ℕ) → x < n → (get_or w₁ (first + x) 0 ≡ x → ⊥) → get_or w₃ (first + x) 0 ≡ get_or w₁ (first + x) 0
        noted-first x h d = f.others x (λ p l e. d (subst (λ (y : ℕ). get_or w₁ (first + y) 0 ≡ y) e (alone p l))) ∙ first-kept₂ x h d

        pub first-room : first + n ≤ length w₃
        first-room = omega (arith, r.first_to, r.room, c.only.long, s.only.long, f.only.long)

        pub first-most : (x : ℕ) → x < n → get_or w₃ (first + x) 0 ≤ x
        first-most x h = ⊎_elim
            (λ (k : get_or w₁ (first + x) 0 ≡ x). rw (sorted-first x h k) (first-low x h))
            (λ d. rw (noted-first x h d) (omega (arith, (c.noted x h d).0)))
            (same_or_not (get_or w₁ (first + x) 0) x)

        leads : (x : ℕ) → x < n → (first_of (get_or w₃ (first + x) 0) ≡ first_of x) × (get_or w₃ (first + x) 0 ≡ x → first_of x ≡ x)
        leads x h = ⊎_elim
            (λ (k : get_or w₁ (first + x) 0 ≡ x). let e = sorted-first x h k in (ap first_of e ∙ first-twice x h, λ z. sym e ∙ z))
            (λ d.
            let e = noted-first x h d in
            let o = c.noted x h d in
            (ap first_of e ∙ ap (λ (t : Set). place t sets) o.1, λ z. absurd (omega (arith, o.0))))
            (same_or_not (get_or w₁ (first + x) 0) x)

        module _ {w₄ : List ℕ} (t : Resolved first n w₃ w₄) where
          first-is : (k : ℕ) → k < n → get_or w₄ (first + k) 0 ≡ first_of k
          first-is = t.each first_of leads

          pub first-few : (k : ℕ) → k < n → get_or w₄ (first + k) 0 ≤ k
          first-few k h = rw (first-is k h) (first-low k h)

          pub room-first : first + n ≤ length w₄
          room-first = omega (arith, first-room, t.only.long)

          pub room-ids : ids + n ≤ length w₄
          room-ids = omega (arith, r.room, c.only.long, s.only.long, f.only.long, t.only.long)

          pub ids-apart : Apart ids n first n
          ids-apart = record { apart = λ p. absurd (omega (arith, r.first_to)) }

          -- ---- the line

          test : ℕ → Bool
          test = is_first_of_like index n w₀

          is-first : (x : ℕ) → x < n → is_first_of_like index n w₀ x ≡ true → first_of x ≡ x
          unfolding is_first_of_like
          is-first x h e = eqb-true (first_of x) x e

          no-first : (x : ℕ) → first_of x < x → is_first_of_like index n w₀ x ≡ false
          unfolding is_first_of_like
          no-first x l = ne_eqb (first_of x) x (λ e. omega arith)

          -- every first is among those that are sorted
          kept-first : (x : ℕ) → x < n → (is_kept first w₁ x && is_first_of_like index n w₀ x) ≡ is_first_of_like index n w₀ x
          kept-first x h = ⊎_elim
              (λ (k : get_or w₁ (first + x) 0 ≡ x). rw (is-kept first w₁ x k) refl)
              (λ d. rw (no-first x (not_first x h d)) (none (is_kept first w₁ x)))
              (same_or_not (get_or w₁ (first + x) 0) x)
            where
              none : (b : Bool) → (b && false) ≡ false
              none true = refl
              none false = refl

          front : keep (is_first_of_like index n w₀) (seg at m w₂) ≡ keep (is_first_of_like index n w₀) (sorted (at_most w₀ index) (up_to n))
          front =
              ap (keep (is_first_of_like index n w₀)) line₀
              ∙ keep-sorted (λ x. x < n) (at_most w₀ index) (le_trans r.held) (le_total r.held) (is_first_of_like index n w₀) some low
              ∙ ap (sorted (at_most w₀ index)) (keep-keep (is_first_of_like index n w₀) (is_kept first w₁) (up_to n) ∙ keep_same (λ x. is_kept first w₁ x && is_first_of_like index n w₀ x) (is_first_of_like index n w₀) (up_to n) (all-imp (λ x h. kept-first x h) (up_to n) (up-all n)))
              ∙ sym (keep-sorted (λ x. x < n) (at_most w₀ index) (le_trans r.held) (le_total r.held) (is_first_of_like index n w₀) (up_to n) (up-all n))

          rest₂ : (q : ℕ) → m ≤ q → q < n → get_or w₂ (at + q) 0 ≡ get_or w₁ (at + q) 0
          rest₂ q l h = s.only.kept (at + q) (record { apart = λ p. omega arith }, (record { apart = λ p. absurd (omega (arith, r.at-to)) }, (record { apart = λ p. absurd (omega (arith, r.at-to, r.first_to)) }, tt)))

          behind-none : All (λ x. is_first_of_like index n w₀ x ≡ false) (seg (at + m) (n - m) w₂)
          behind-none = all-seg (λ x. is_first_of_like index n w₀ x ≡ false) (n - m) (at + m) w₂ (omega (arith, c.few, r.at-to, r.first_to, r.room, c.only.long, s.only.long))
              (λ k a b.
              let q = k - at in
              let lq : q < n = omega (arith, c.few) in
              let mq : m ≤ q = omega arith in
              let e : k ≡ at + q = omega arith in
              let o = c.rest q mq lq in
              rw e (rw (rest₂ q mq lq) (no-first (get_or w₁ (at + q) 0) (not_first (get_or w₁ (at + q) 0) o.0 (λ z. omega (arith, o.1))))))

          whole : seg at n w₂ ≡ seg at m w₂ ++ seg (at + m) (n - m) w₂
          whole = ap (λ (k : ℕ). seg at k w₂) (omega (arith, c.few)) ∙ seg-add at m (n - m) w₂

          line₂ : keep (is_first_of_like index n w₀) (seg at n w₂) ≡ keep (is_first_of_like index n w₀) (sorted (at_most w₀ index) (up_to n))
          line₂ =
              ap (keep (is_first_of_like index n w₀)) whole ∙ keep_append (is_first_of_like index n w₀) (seg at m w₂) (seg (at + m) (n - m) w₂)
              ∙ ap (λ (l : List ℕ). keep (is_first_of_like index n w₀) (seg at m w₂) ++ l) (keep-none (is_first_of_like index n w₀) (seg (at + m) (n - m) w₂) behind-none)
              ∙ append-nil (keep (is_first_of_like index n w₀) (seg at m w₂)) ∙ front

          numbers₂ : All (λ x. x < n) (seg at n w₂)
          numbers₂ = all-seg (λ x. x < n) n at w₂ (omega (arith, r.at-to, r.first_to, r.room, c.only.long, s.only.long))
              (λ k a b.
              let q = k - at in
              let lq : q < n = omega arith in
              let e : k ≡ at + q = omega arith in
              rw e (⊎_elim
              (λ (l : q < m).
              let g = sorted_all (at_most w₀ index) (λ x. x < n) some low in
              seg_all (λ x. x < n) m at w₂ (omega (arith, c.few, r.at-to, r.first_to, r.room, c.only.long, s.only.long)) (rw line₀ g) (at + q) (omega arith) (omega arith))
              (λ l. rw (rest₂ q l lq) (c.rest q l lq).0)
              (lt-or-ge q m)))

          pub identified : {w₅ : List ℕ} {count : ℕ} → ((all : List Set) → GivesIds first ids n all w₄ w₅ count) → Identified index n at first ids w₀ w₅ count
          identified {w₅} {count} g =
              let v = g sets in
              let same : (k : ℕ) → k < n → get_or w₄ (first + k) 0 ≡ place (get_or sets k []) sets = λ k h. first-is k h ∙ ap (λ (z : Set). place z sets) (sym (sets-at index n w₀ k h)) in
              let line_kept : seg at n w₅ ≡ seg at n w₂ =
              only-seg v.only at n (omega (arith, room-first, r.at-to)) (λ k p q. (record { apart = λ z. absurd (omega (arith, r.at-to, r.first_to)) }, tt))
              ∙ only-seg t.only at n (omega (arith, first-room, r.at-to)) (λ k p q. (record { apart = λ z. absurd (omega (arith, r.at-to)) }, tt))
              ∙ only-seg f.only at n (omega (arith, first-room, r.at-to, f.only.long)) (λ k p q. (record { apart = λ z. absurd (omega (arith, r.at-to)) }, tt)) in
              record {
                only =
                    only-trans c.only
                    (only-trans (only-weaken (λ k o. (record { apart = λ z. omega (arith, c.few, o.0.apart (omega (arith, c.few))) }, (o.1.0, (record { apart = λ z. omega (arith, c.few, o.1.1.0.apart (omega (arith, c.few))) }, tt)))) s.only)
                    (only-trans (only-weaken (λ k o. (o.1.0, tt)) f.only)
                    (only-trans (only-weaken (λ k o. (o.1.0, tt)) t.only) (only-weaken (λ k o. (o.1.1.0, tt)) v.only))));
                numbers = rw line_kept numbers₂;
                firsts-line = ap (keep (is_first_of_like index n w₀)) line_kept ∙ line₂;
                firsts = λ k h. v.only.kept (first + k) (record { apart = λ z. absurd (omega (arith, r.first_to)) }, tt) ∙ first-is k h;
                given = v.given (sets-length index n w₀) same;
                count = v.count (sets-length index n w₀) same;
              }
