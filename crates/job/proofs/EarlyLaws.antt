-- The published number as it is asked for (RULES J7). Assumes nothing.
use mathlib.Core.Path.{◌≡◌, sym, ◌∙◌}
use mathlib.Core.List.{List}
use Prim.Native.Nat.{ℕ, ◌≤◌, ◌<◌, min}
use native.Mathlib.Omega.{arith}
use borrow.Author.Tests.{le-leb, lt-leb}
use Rattle.limits.specs.Limits.{most_records, max_regions}
use Rattle.said.specs.Work.{regions_at_head}
use Rattle.said.specs.Refusals.{published_work, building_work}
use Rattle.said.proofs.WorkLaws.{words_are, head-most}

pub words-none : (n r : ℕ) → most_records < n → 0 ≡ building_work n r
unfolding building_work
words-none n r h = rw (lt-leb n most_records h)

pub words-all : (n r w : ℕ) → n ≤ most_records → max_regions < r → w ≡ published_work n max_regions → w ≡ building_work n r
unfolding building_work
words-all n r w h l e = let m : min r max_regions ≡ max_regions = omega arith in rw (le-leb n most_records h, m) e

pub words-some : (n r w : ℕ) → n ≤ most_records → r ≤ max_regions → w ≡ published_work n r → w ≡ building_work n r
words-some n r w h l e = e ∙ sym (words_are n r h l)

pub head_few : (axes : ℕ) (job : List ℕ) → regions_at_head axes job ≤ max_regions
head_few = head-most
