-- A report of sixteen words is what is told, word by word; and a gain as two's complement. Assumes nothing.
use mathlib.Core.Path.{◌≡◌, refl, sym, ap, ◌∙◌}
use mathlib.Core.List.{List, [], ◌∷◌, ◌++◌, append-nil}
use mathlib.Core.Logic.{⊎_elim}
use Prim.Native.Nat.{ℕ, suc, ◌+◌, ◌-◌, ◌*◌, ◌^◌, ◌≤◌, ◌<◌}
use native.Mathlib.Omega.{arith}
use lib.IntN.{negsuc, sub_ℕ}
use lib.ListN.{length, set, take, length-set}
use lib.Seq.{take_all, take-suc-set, append_snoc}
use borrow.Author.Tests.{lt-ltb, le-ltb}
use Rattle.laws.specs.Signed.{signed}
use Rattle.laws.proofs.Cases.{lt-or-ge}
use Rattle.reporting.specs.Answers.{filled}
use Rattle.why_words.specs.WhyWords.{cost_limit, gain_as_word}

-- words put over the last ones leave those before
filled-end : (k : ℕ) (l old : List ℕ) → length old ≡ k + length l → filled k l old ≡ take k old ++ l
unfolding filled
filled-end k [] old e = sym (append-nil (take k old) ∙ take_all k old (omega arith))
filled-end k (x ∷ l) old e =
    let h : k < length old = omega arith in
    let n : length (set old k x) ≡ k + 1 + length l = omega (arith, length-set old k x) in
    let s : k + 1 ≡ suc k = omega arith in
    filled-end (k + 1) l (set old k x) n
    ∙ ap (λ (j : ℕ). take j (set old k x) ++ l) s
    ∙ ap (λ (t : List ℕ). t ++ l) (take-suc-set old k x h)
    ∙ append_snoc (take k old) x l

pub filled-all : (l old : List ℕ) → length old ≡ length l → filled 0 l old ≡ l
filled-all l old e = filled-end 0 l old (omega arith)

-- ---- the gain

pub gain-signed : (a b j : ℕ) → a < cost_limit → b < cost_limit → a + b ≤ j → j < cost_limit → signed 8 (gain_as_word a b j) ≡ sub_ℕ (a + b) j
unfolding gain_as_word signed
gain-signed a b j p q h l = ⊎_elim
    (λ (m : a + b < j).
    let w = 18446744073709551616 - (j - (a + b)) in
    let e : 256 ^ 8 - suc w ≡ j - suc (a + b) = omega arith in
    rw (lt-ltb a cost_limit p, lt-ltb b cost_limit q, lt-ltb (a + b) j m, le-ltb (2 * w) (256 ^ 8) (omega arith)) (ap negsuc e))
    (λ (m : j ≤ a + b).
    rw (lt-ltb a cost_limit p, lt-ltb b cost_limit q, le-ltb (a + b) j m, lt-ltb (2 * (a + b - j)) (256 ^ 8) (omega arith)) refl)
    (lt-or-ge (a + b) j)
