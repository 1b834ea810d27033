use mathlib.Core.Path.{ap, ◌∙◌}
use Prim.Native.Nat.{ℕ}
use Rattle.laws.specs.Signed.{value, signed}
use Rattle.said.specs.Records.{record_at}
use Rattle.panel.proofs.CoordinateLaws.{word_back}
use Rattle.panel.proofs.OddLaws.{sound-by}
use Rattle.panel.proofs.records_of.is_sound.Goals as goal

pub returns : goal.returns
returns c =
    let a = c.args in
    let e = c.coordinate_word-end in
    let p = c.coordinate_word-peak in
    let s = c.coordinate_word-start in
    sound-by (record_at a.job.now a.i) c.sound_axis.result (value s.result) (value p.result) (value e.result) c.sound_axis.ensures
    (word_back c.start_at.result s.result c.start_at.ensures.upper_bound s.ensures ∙ ap (λ (x : ℕ). signed 2 x) c.start_at.ensures.value)
    (word_back c.peak_at.result p.result c.peak_at.ensures.upper_bound p.ensures ∙ ap (λ (x : ℕ). signed 2 x) c.peak_at.ensures.value)
    (word_back c.end_at.result e.result c.end_at.ensures.upper_bound e.ensures ∙ ap (λ (x : ℕ). signed 2 x) c.end_at.ensures.value)
