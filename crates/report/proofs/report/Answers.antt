-- `report::report` meets its contract: each answer has its text.
-- Assumes nothing.
use mathlib.Core.Path.{◌≡◌, refl, sym, ◌∙◌, ap}
use mathlib.Core.Bool.{true}
use Prim.Native.Nat.{ℕ}
use native.Mathlib.Omega.{arith}
use Rattle.model.specs.Grid.{size_fits, sectors_fit, map_bytes, map_fits}
use Rattle.model.proofs.Grid.{one_byte}
use Rattle.model.specs.Listing.{repair_word, fatal_word}
use Rattle.model.specs.Answers.{number}
use Rattle.layout.proofs.Numbers.{numbered}
use Rattle.text.proofs.Joined.{written_as}
use Rattle.report.proofs.Answers.{size_refused, map_refused, repairs_printable, cycle_printable, repairs-reported, cycle-reported}
use Rattle.report.proofs.report.Goals.{Else-not-map_fits, Else-not-size_fits}
use Rattle.report.proofs.report.Goals as goal

-- What each test that was passed has shown.
sized : (c : goal.Else-not-size_fits) → size_fits c.args.size ≡ true
sized c = sym c.size_fits.ensures ∙ c.if-not-size_fits.false

mapped : (c : goal.Else-not-map_fits) → let a = c.args in map_fits (map_bytes a.size 1) a.map.now ≡ true
mapped c = sym c.map_fits.ensures ∙ c.if-not-map_fits.false

pub returns-then-not-size_fits : goal.returns-then-not-size_fits
unfolding number
returns-then-not-size_fits c =
    written_as (size_refused _ _ (sym c.size_fits.ensures ∙ c.if-not-size_fits.true))
    c.refused.ensures

pub map_fits-requires-clause-sectors_value : goal.map_fits-requires-clause-sectors_value
unfolding sectors_fit
map_fits-requires-clause-sectors_value c = refl

pub returns-then-not-map_fits : goal.returns-then-not-map_fits
unfolding number
returns-then-not-map_fits c =
    written_as (map_refused _ _ (sized (goal.at.returns-then-not-map_fits c).Else-not-size_fits) (sym c.map_fits.ensures ∙ c.if-not-map_fits.true)) c.refused-then-not-map_fits.ensures

pub invariant_of-grid : goal.invariant_of-grid
invariant_of-grid c = record { numbered = numbered _ (sized (goal.at.invariant_of-grid c).Else-not-size_fits) }

pub solve-answer-requires-clause-map_value : goal.solve-answer-requires-clause-map_value
solve-answer-requires-clause-map_value c =
    let a = c.args in
    ap (λ (k : ℕ). map_fits k a.map.now) (sym (one_byte a.size)) ∙ mapped (goal.at.solve-answer-requires-clause-map_value c).Else-not-map_fits

pub listed-requires-clause-printable : goal.listed-requires-clause-printable
listed-requires-clause-printable c =
    let same = c.solve-answer.auto.list in
    let size = sized (goal.at.listed-requires-clause-printable c).Else-not-size_fits in
    repairs_printable _ _ size c.in-Repairs.ensures (omega arith)

pub listed-requires-in-Cycle-clause-printable : goal.listed-requires-in-Cycle-clause-printable
listed-requires-in-Cycle-clause-printable c =
    let same = c.solve-answer.auto.list in
    let size = sized (goal.at.listed-requires-in-Cycle-clause-printable c).Else-not-size_fits in
    cycle_printable _ _ size c.in-Cycle.ensures (omega arith)

pub returns-in-Repairs : goal.returns-in-Repairs
unfolding repair_word
returns-in-Repairs c =
    let size = sized (goal.at.returns-in-Repairs c).Else-not-size_fits in
    let map = mapped (goal.at.returns-in-Repairs c).Else-not-map_fits in
    written_as (repairs-reported _ _ size c.in-Repairs.ensures map) c.listed.ensures

pub returns-in-Cycle : goal.returns-in-Cycle
unfolding fatal_word
returns-in-Cycle c =
    let size = sized (goal.at.returns-in-Cycle c).Else-not-size_fits in
    let map = mapped (goal.at.returns-in-Cycle c).Else-not-map_fits in
    written_as (cycle-reported _ _ size c.in-Cycle.ensures map) c.listed-in-Cycle.ensures
