use Rattle.panel.proofs.CoordinateLaws.{start-after, peak-after, start-low, end-high, start-not-below, end-not-above, peak-there}
use native.Mathlib.Omega.{arith}
use Rattle.panel.proofs.coordinates.sound_axis.Goals as goal

pub returns-then-peak-start : goal.returns-then-peak-start
returns-then-peak-start c = let a = c.args in start-after a.start a.peak a.end c.if-peak-start.true

pub returns-then-end-peak : goal.returns-then-end-peak
returns-then-end-peak c = let a = c.args in peak-after a.start a.peak a.end (omega (arith, c.if-peak-start.false)) c.if-end-peak.true

pub returns-then-start-lt-LOWEST : goal.returns-then-start-lt-LOWEST
returns-then-start-lt-LOWEST c = let a = c.args in start-low a.start a.peak a.end (omega (arith, c.if-peak-start.false)) (omega (arith, c.if-end-peak.false)) c.if-start-lt-LOWEST.true

pub returns-then-end-gt-HIGHEST : goal.returns-then-end-gt-HIGHEST
returns-then-end-gt-HIGHEST c = let a = c.args in end-high a.start a.peak a.end (omega (arith, c.if-peak-start.false)) (omega (arith, c.if-end-peak.false)) (omega (arith, c.if-start-lt-LOWEST.false)) c.if-end-gt-HIGHEST.true

pub returns-then-start-ge-ZERO : goal.returns-then-start-ge-ZERO
returns-then-start-ge-ZERO c = let a = c.args in start-not-below a.start a.peak a.end (omega (arith, c.if-peak-start.false)) (omega (arith, c.if-end-peak.false)) (omega (arith, c.if-start-lt-LOWEST.false)) (omega (arith, c.if-end-gt-HIGHEST.false)) c.if-start-ge-ZERO.true

pub returns-then-end-le-ZERO : goal.returns-then-end-le-ZERO
returns-then-end-le-ZERO c = let a = c.args in end-not-above a.start a.peak a.end (omega (arith, c.if-peak-start.false)) (omega (arith, c.if-end-peak.false)) (omega (arith, c.if-start-lt-LOWEST.false)) (omega (arith, c.if-end-gt-HIGHEST.false)) (omega (arith, c.if-start-ge-ZERO.false)) c.if-end-le-ZERO.true

pub returns : goal.returns
returns c = let a = c.args in peak-there a.start a.peak a.end (omega (arith, c.if-peak-start.false)) (omega (arith, c.if-end-peak.false)) (omega (arith, c.if-start-lt-LOWEST.false)) (omega (arith, c.if-end-gt-HIGHEST.false)) (omega (arith, c.if-start-ge-ZERO.false)) (omega (arith, c.if-end-le-ZERO.false))
