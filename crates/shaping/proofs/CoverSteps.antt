-- The loops that write mode 1's shape. Assumes nothing.
use mathlib.Core.Path.{◌≡◌, refl, sym, ap, ap₂, ◌∙◌}
use mathlib.Core.List.{List, [], ◌∷◌}
use Prim.Native.Nat.{ℕ, ◌+◌, ◌-◌, ◌*◌, ◌≤◌, ◌<◌}
use native.Mathlib.Numerals.{add-one}
use native.Mathlib.Omega.{arith}
use lib.ListN.{length, get_or, take, replicate, length-replicate}
use Rattle.std.proofs.lemmas.List.{get_or-replicate}
use lib.Seq.{take-suc, take_all}
use Rattle.laws.specs.LentRange.{Apart, Only, Zeroed, seg}
use Rattle.laws.proofs.RangeLaws.{only-refl, only-trans, only-weaken, only-seg, get_or-seg}
use borrow.Rule.Slice.PartMut.{put_mid}
use Rattle.laws.proofs.PartLaws.{only-mid, seg-mid}
use Rattle.laws.proofs.ZeroLaws.{zeroed-part}
use Rattle.shapes.specs.Shape.{join}
use Rattle.shapes.specs.Lent.{JoinedAt}
use Rattle.sets.specs.Lent.{set_of, entries_at, count_of, Stored, sets_in}
use Rattle.sets.proofs.HeldLaws.{Kept, kept-only, held_kept, held-stored, set_same, sets-length, sets-at, sets_same}
use Rattle.groups.specs.Groups.{shape_of}
use Rattle.groups.specs.Cover.{cover_from}
use Rattle.shaping.specs.Lent.{ShapedAt, CoverFit, CoveredAt, CoverAt}
use Rattle.groups.proofs.CoverLaws.{cover-snoc}

-- ---- joining each

pub record Covering (index n at tmp regions : ℕ) (old new : List ℕ) (x : ℕ) : Type 0 where
  pub within : x ≤ n
  pub only : Only ((at, regions) ∷ (tmp, regions) ∷ []) old new
  pub is : seg at regions new ≡ cover_from regions (seg at regions old) (take x (sets_in index n old))

module _ {index n at tmp regions : ℕ} {old : List ℕ} (f : CoverFit index n at tmp regions old) where
  pub cover-start : Covering index n at tmp regions old old 0
  unfolding cover_from
  cover-start = record { within = omega arith; only = only-refl ((at, regions) ∷ (tmp, regions) ∷ []) old; is = refl }

  module _ {new : List ℕ} {x : ℕ} (c : Covering index n at tmp regions old new x) (h : x < n) where
    kept : Kept f.end old new
    kept = kept-only c.only (f.behind, (omega (arith, f.behind, f.at-to), tt))

    pub cover-stored : Stored new index x
    cover-stored = held-stored (held_kept f.held kept) x h

    pub cover-before : entries_at index x new + 2 * count_of index x new ≤ tmp
    cover-before = omega (arith, (held_kept f.held kept).body x h, f.behind, f.at-to)

    pub cover-room : tmp + regions ≤ length new
    cover-room = omega (arith, f.room, c.only.long)

    pub cover-apart : Apart at regions tmp regions
    cover-apart = record { apart = λ p. f.at-to }

    module _ {mid : List ℕ} (s : ShapedAt index x tmp regions new mid) where
      pub join-rooms : (at + regions ≤ length mid) × (tmp + regions ≤ length mid)
      join-rooms = (omega (arith, f.at-to, cover-room, s.only.long), omega (arith, cover-room, s.only.long))

      pub cover-next : {next : List ℕ} → JoinedAt at tmp regions mid next → Covering index n at tmp regions old next (x + 1)
      cover-next {next} j = record {
        within = omega arith;
        only = only-trans c.only (only-trans (only-weaken (λ k o. (o.1.0, tt)) s.only) (only-weaken (λ k o. (o.0, tt)) j.only));
        is =
            let first : seg at regions mid ≡ seg at regions new = only-seg s.only at regions (omega (arith, f.at-to, cover-room)) (λ k p q. (record { apart = λ z. absurd (omega (arith, f.at-to)) }, tt)) in
            let this : set_of index x new ≡ get_or (sets_in index n old) x [] = set_same f.held kept x h ∙ sym (sets-at index n old x h) in
            j.is
            ∙ ap₂ join (first ∙ c.is) (s.is ∙ ap (shape_of regions) this)
            ∙ sym (cover-snoc regions (seg at regions old) (take x (sets_in index n old)) (get_or (sets_in index n old) x []))
            ∙ ap (cover_from regions (seg at regions old)) (sym (rw add-one (take-suc (sets_in index n old) x [] (omega (arith, sets-length index n old)))));
      }

  pub cover-done : {new : List ℕ} {x : ℕ} → Covering index n at tmp regions old new x → n ≤ x → CoveredAt index n at tmp regions old new
  cover-done {new} {x} c h = record { only = c.only; is = c.is ∙ ap (cover_from regions (seg at regions old)) (take_all x (sets_in index n old) (omega (arith, sets-length index n old))) }

  -- ---- from zeros on

  module _ {mid : List ℕ} (z : Zeroed at regions old mid) where
    zeroed : Kept f.end old mid
    zeroed = kept-only z.only (f.behind, tt)

    pub fit-zeroed : CoverFit index n at tmp regions mid
    fit-zeroed = record { end = f.end; held = held_kept f.held zeroed; behind = f.behind; at-to = f.at-to; room = omega (arith, f.room, z.only.long) }

    pub covered : {new : List ℕ} → CoveredAt index n at tmp regions mid new → CoverAt index n at tmp regions old new
    covered c = record {
      only = only-trans (only-weaken (λ k o. (o.0, tt)) z.only) c.only;
      is = c.is ∙ ap₂ (cover_from regions) (zeroed-part z (omega (arith, f.room, f.at-to))) (sets_same f.held zeroed);
    }

-- ---- a part lent, and all of it zero

pub filled : (at n : ℕ) (w s : List ℕ) → at + n ≤ length w → s ≡ replicate n 0 → Zeroed at n w (put_mid at (at + n - at) w s)
filled at n w s room z =
    let fits : length s ≡ at + n - at = ap length z ∙ length-replicate n 0 ∙ omega arith in
    record {
      only = only-mid at n w s room fits;
      is = λ k h. sym (get_or-seg at n (put_mid at (at + n - at) w s) k h) ∙ ap (λ (x : List ℕ). get_or x k 0) (seg-mid at n w s room fits ∙ z) ∙ get_or-replicate n k 0 0 h;
    }
