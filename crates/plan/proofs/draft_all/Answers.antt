-- `plan::draft_all` meets its contract: each position gets what those before it leave of the limit, up to the first where the loss is
-- fatal. The sheets of later ones still hold their notes.
-- Assumes nothing.
use mathlib.Core.Path.{sym, ◌∙◌, ap}
use native.Mathlib.Nat.{le_refl}
use native.Mathlib.Omega.{arith}
use Rattle.stripes.specs.Erased.{erasures}
use Rattle.stripes.specs.Sectors.{at_position}
use Rattle.model.specs.Sheet.{narrow}
use Rattle.model.proofs.Grid.{sectors-bound}
use Rattle.model.specs.Answers.{verdict_of}
use Rattle.sheet.proofs.Part.{part_sheet}
use Rattle.plan.proofs.Begun.{begins, ends, goes, stops, repairs_told, unrepaired, after-other, own_few, before-few}
use Rattle.plan.proofs.draft_all.Goals as goal

pub loop-p-init : goal.loop-p-init
loop-p-init c = (begins _ _ _ _ _ c.requires.sheets_len, λ q low high. c.requires.each_notes q high)

pub draft_noted-answer-requires-clause-notes : goal.draft_noted-answer-requires-clause-notes
draft_noted-answer-requires-clause-notes c =
    rw (part_sheet narrow c.loop-p.p c.loop-p.sheets) (c.loop-p.invariant.1 c.loop-p.p (le_refl _) c.loop-p-test.true)

pub zero_others-requires-clause-number_bound : goal.zero_others-requires-clause-number_bound
zero_others-requires-clause-number_bound c = (sectors-bound _ c.requires.sectors_value).1

pub returns-in_default : goal.returns-in_default
returns-in_default c =
    let (h0, h1) = stops _ _ _ _ c.loop-p.invariant.0 c.loop-p-test.true c.draft_noted-answer.ensures.outcome c.draft_noted-answer.ensures.sheet
    (unrepaired _ c.in_default.not-Repairs) c.zero_others.ensures in
    record {
      outcome = h0;
      sheets = h1;
    }

pub overflow_add-count : goal.overflow_add-count
unfolding verdict_of
overflow_add-count c =
    let l = c.loop-p in
    let number = (repairs_told _ _ _ (sym c.draft_noted-answer.ensures.outcome ∙ ap verdict_of c.in-Repairs.is)).1 in
    let here = own_few c.args.size c.requires.size_value (at_position c.args.sectors l.p (erasures c.args.map.now)) in
    let so_far = before-few c.args.size c.requires.size_value c.args.sectors (erasures c.args.map.now) l.p in
    let counted = l.invariant.0.counted in
    let few = (sectors-bound _ c.requires.sectors_value).1 in
    let place = c.loop-p-test.true in
    omega arith

pub loop-p-preserved : goal.loop-p-preserved
unfolding verdict_of
loop-p-preserved c =
    let l = c.loop-p in
    let place = c.loop-p-test.true in
    let record { outcome = says; sheet = is } = c.draft_noted-answer.ensures in (
      goes _ _ _ _ l.invariant.0 place says is (ap verdict_of c.in-Repairs.is) c.at_most-left.ensures,
      λ q low high. rw (after-other _ _ _ _ l.invariant.0 place says is q (λ same. omega arith)) (l.invariant.1 q (omega arith) high),
    )

pub returns : goal.returns
unfolding verdict_of
returns c =
    let (h0, h1) = ends _ _ _ _ c.loop-p.invariant.0 (omega arith) in
    record {
      outcome = h0;
      sheets = h1;
    }
