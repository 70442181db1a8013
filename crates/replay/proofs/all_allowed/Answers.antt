-- `replay::all_allowed` meets its contract: each turn judges one entry.
-- Assumes nothing.
use mathlib.Core.Path.{◌≡◌, sym, ◌∙◌}
use mathlib.Core.Bool.{true}
use borrow.Author.Rules.{rules}
use Rattle.stripes.specs.Erased.{erasures}
use Rattle.stripes.specs.Repair.{allowed}
use Rattle.stripes.proofs.Peel.{allowed_is}
use Rattle.model.specs.Grid.{layout_of}
use Rattle.replay.proofs.Replayed.{replayed_none, replayed_next, replayed_refused}
use Rattle.replay.proofs.all_allowed.Goals.{Else-not-allowed}
use Rattle.replay.proofs.all_allowed.Goals as goal

pub loop-k-init : goal.loop-k-init
loop-k-init c = (search rules, search rules, replayed_none _ c.requires.tallied)

pub returns-then-not-allowed : goal.returns-then-not-allowed
returns-then-not-allowed c =
    replayed_refused c.loop-k.invariant.2 _ _ c.disk_of-disk.ensures c.stripe_of-stripe.ensures
    (sym c.allowed.ensures ∙ c.if-not-allowed.true) _ (search rules)

-- The entry is a repair that is allowed.
may : (c : goal.Else-not-allowed) →
    allowed (layout_of c.args.grid.size c.args.grid.base) (erasures c.loop-k.work) c.disk_of-disk.result c.stripe_of-stripe.result ≡ true
may c = sym c.allowed.ensures ∙ c.if-not-allowed.false

pub take-requires-clause-disk_value : goal.take-requires-clause-disk_value
take-requires-clause-disk_value c = (allowed_is _ _ _ _ (may (goal.at.take-requires-clause-disk_value c).Else-not-allowed)).erased

pub loop-k-preserved : goal.loop-k-preserved
loop-k-preserved c =
    let take = c.take in (
      search rules,
      search rules,
      replayed_next c.loop-k.invariant.2 _ _ c.disk_of-disk.ensures c.stripe_of-stripe.ensures (may (goal.at.loop-k-preserved c).Else-not-allowed) take.ensures.tallied take.ensures.erased,
    )
