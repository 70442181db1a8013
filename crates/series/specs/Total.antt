-- What turns come to, one after another.
-- Assumes nothing.
use Rattle.std.specs.Prelude.{cond, List, ℕ, ◌+◌, ◌-◌, length}
use Rattle.stripes.specs.System.{Layout}
use Rattle.model.specs.Turn.{Turn, unfinished, last_of, repair_count, made_by}
use Rattle.model.specs.Outcome.{Outcome}
use Rattle.model.specs.Answers.{outcome_of}
use Rattle.series.specs.declared.Turns.{Turns}

-- The last answer, how many turns and repairs, and for how many other turns sheets are left to use.
pub record Total : Type 0 where
  pub last : Outcome
  pub turns : ℕ
  pub made : ℕ
  pub left : ℕ

-- What code answers for turns, in these words.
abbrev pub total_of_turns : Turns → Total
total_of_turns d = record { last = outcome_of d.last; turns = d.turns; made = d.made; left = d.left }

-- What they come to: the last answer, how many turns and repairs, and no sheets that are left to use.
abbrev pub total_of : (before : Turn) → List Turn → Total
total_of before ts = record { last = (last_of before ts).answer; turns = length ts; made = made_by ts; left = 0 }

-- What they come to with one turn more, which uses its sheets.
abbrev pub next_total : Layout → Total → Turn → Total
next_total L d t =
    record {
      last = t.answer;
      turns = d.turns + 1;
      made = d.made + repair_count t.answer;
      left = cond (unfinished L t) (d.left - 1) 0;
    }
