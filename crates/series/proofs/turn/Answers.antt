-- `series::turn` meets its contract, at each of its four ends.
-- Assumes nothing.
use mathlib.Core.Path.{◌≡◌, ◌∙◌, sym, ap}
use mathlib.Core.Bool.{true, false}
use Prim.Native.Nat.{ℕ, ◌+◌, ◌<◌}
use Rattle.std.specs.Prelude.{Ok}
use borrow.Author.Rules.{rules}
use Rattle.model.specs.declared.answer.Verdict.TheVariants as Found
use native.Mathlib.Omega.{arith}
use Rattle.model.specs.Rebuild.{rebuild_turn}
use Rattle.model.specs.Outcome.{Repairs}
use Rattle.model.specs.Answers.{outcome_of, verdict_of}
use Rattle.series.specs.Total.{total_of_turns}
use Rattle.series.proofs.Ends.{positions-bound, unrepaired, sum_small, number_small, refused_last, few-made, repairs-counted}
use Rattle.model.specs.Series.{turn_bytes}
use Rattle.series.proofs.turn.Goals.{In-Ok-Repairs}
use Rattle.series.proofs.turn.Goals as goal

pub overflow_add-turns : goal.overflow_add-turns
overflow_add-turns c =
    let a = c.args in
    let some = (positions-bound a.block a.sector).0 in
    let small = number_small (turn_bytes a.block a.sector) a.done.turns 9223372036854775808 (omega arith) c.requires.turns_bound in
    omega arith

-- A fatal loss, and then a refusal.
pub returns-in_default : goal.returns-in_default
returns-in_default c =
    let a = c.args in
    let record { outcome = answer; array = array; map = map; sheets = sheets } = c.rebuild-last.ensures in
    let other : (number : ℕ) → c.rebuild-last.result ≡ Ok (Found.Repairs number) → ⊥ = search rules in
    record {
      turns = refused_last a.size a.block a.sector a.array.now a.map.now a.sheets.now a.limit (total_of_turns a.done) _ answer (unrepaired _ other);
      array = array;
      map = map;
      sheets = sheets;
    }

pub returns-in_default-2 : goal.returns-in_default-2
returns-in_default-2 c =
    let a = c.args in
    let record { outcome = answer; array = array; map = map; sheets = sheets } = c.rebuild-last.ensures in
    let other : (number : ℕ) → c.rebuild-last.result ≡ Ok (Found.Repairs number) → ⊥ = search rules in
    record {
      turns = refused_last a.size a.block a.sector a.array.now a.map.now a.sheets.now a.limit (total_of_turns a.done) _ answer (unrepaired _ other);
      array = array;
      map = map;
      sheets = sheets;
    }

-- The answer is a number of repairs, and few.
repaired : (c : goal.In-Ok-Repairs)
    → let a = c.args in
    Repairs c.in-Ok-Repairs.count
    ≡ (rebuild_turn a.size a.block a.sector a.array.now a.map.now a.sheets.now a.limit).answer
unfolding outcome_of verdict_of
repaired c =
    let told : c.rebuild-last.result ≡ Ok (Found.Repairs c.in-Ok-Repairs.count) = search rules in
    sym (ap outcome_of told) ∙ c.rebuild-last.ensures.outcome

sum_fits : (c : goal.In-Ok-Repairs)
    → let a = c.args in
    a.done.made + c.in-Ok-Repairs.count < 9223372036854775808
sum_fits c =
    let a = c.args in
    sum_small (turn_bytes a.block a.sector) a.done.turns a.done.made c.in-Ok-Repairs.count 9223372036854775808 c.requires.made_bound
    (few-made a.size a.block a.sector a.array.now a.map.now a.sheets.now a.limit _ (repaired c)) c.requires.turns_bound

pub overflow_add-result : goal.overflow_add-result
overflow_add-result c = let sum = sum_fits (goal.at.overflow_add-result c).In-Ok-Repairs in omega arith

pub returns-then-any_erased : goal.returns-then-any_erased
returns-then-any_erased c =
    let a = c.args in
    let record { outcome = answer; array = array; map = map; sheets = sheets } = c.rebuild-last.ensures in
    record {
      turns = repairs-counted a.size a.block a.sector a.array.now a.map.now a.sheets.now a.limit _ (repaired (goal.at.returns-then-any_erased c).In-Ok-Repairs) (total_of_turns a.done) _ answer _ map true
          (sym c.if-any_erased.true ∙ c.any_erased.ensures);
      array = array;
      map = map;
      sheets = sheets;
    }

pub overflow_add-result-2 : goal.overflow_add-result-2
overflow_add-result-2 c = let sum = sum_fits (goal.at.overflow_add-result-2 c).In-Ok-Repairs in omega arith

pub returns : goal.returns
returns c =
    let a = c.args in
    let record { outcome = answer; array = array; map = map; sheets = sheets } = c.rebuild-last.ensures in
    record {
      turns = repairs-counted a.size a.block a.sector a.array.now a.map.now a.sheets.now a.limit _ (repaired (goal.at.returns c).In-Ok-Repairs) (total_of_turns a.done) _ answer _ map false
          (sym c.if-any_erased.false ∙ c.any_erased.ensures);
      array = array;
      map = map;
      sheets = sheets;
    }
