-- What the table of levels says of the disks: which are on a shortest way.
-- Assumes nothing.
use mathlib.Core.Path.{◌≡◌, refl, sym, ◌∙◌, ap, ap₂}
use mathlib.Core.Bool.{Bool, true, false, cond}
use mathlib.Core.List.{List, ◌++◌}
use Prim.Native.Nat.{ℕ, ◌+◌, ◌≤◌, ◌<◌}
use native.Mathlib.Omega.{arith}
use borrow.Author.Tests.{eq-eqb, le-leb, lt-leb}
use lib.Dec.{eqb, leb}
use lib.ListN.{length, get_or, take, get_or-append}
use lib.Seq.{take_at, get_or-append-add}
use Rattle.stripes.specs.System.{Layout, TwoStripes, first_of, other_than, lower, higher}
use Rattle.stripes.proofs.Fold.{bit-zero}
use Rattle.tally.proofs.Counted.{Crossed}
use Rattle.reach.specs.Reached.{steps_to, next_in, word_stripes}
use Rattle.neighbours.specs.Near.{Near}
use Rattle.smallest.specs.Leads.{disks_to}
use Rattle.smallest.specs.Ways.{Levelled, level_in, way_level}
use Rattle.neighbours.proofs.Neighbours.{Apart, near_own}
use Rattle.smallest.proofs.Neighbours.{near_steps}

-- ---- what is read for a disk on two stripes

-- How many disks a way has on which a disk leads from stripe x to stripe y.
abbrev pub way_by : List ℕ → (x y : ℕ) → ℕ
way_by levels x y = get_or levels x 0 + 1 + get_or levels (word_stripes + y) 0

module _ (near levels : List ℕ) (low high k : ℕ) where
  -- A disk that is not in the table of neighbours is on no way.
  pub level_absent : next_in near low high ≡ false → k ≡ level_in near levels low high k
  unfolding level_in
  level_absent h = rw h

  -- The level is that of the lower stripe where the way over it has no more than k disks, or else that of the higher one, or k.
  module _ (held : next_in near low high ≡ true) where
    pub level_first : way_by levels low high ≤ k → get_or levels low 0 ≡ level_in near levels low high k
    unfolding level_in
    level_first h = rw (held, le-leb (way_by levels low high) k h)

    module _ (long : k < way_by levels low high) where
      pub level_second : way_by levels high low ≤ k → get_or levels high 0 ≡ level_in near levels low high k
      unfolding level_in
      level_second h = rw (held, lt-leb (way_by levels low high) k long, le-leb (way_by levels high low) k h)

      pub level_none : k < way_by levels high low → k ≡ level_in near levels low high k
      unfolding level_in
      level_none h = rw (held, lt-leb (way_by levels low high) k long, lt-leb (way_by levels high low) k h)

-- The table is filled in two parts.
pub levelled_both : {near : List ℕ} {s t k : ℕ} (a b old rest : List ℕ) → length a ≡ word_stripes
    → ((x : ℕ) → x < word_stripes → get_or a x 0 ≡ steps_to (next_in near) word_stripes s k x)
    → length b ≡ word_stripes → ((x : ℕ) → x < word_stripes → get_or b x 0 ≡ steps_to (next_in near) word_stripes t k x)
    → length (take word_stripes (a ++ old) ++ (b ++ rest)) ≡ word_stripes + word_stripes
    → Levelled near s t k (take word_stripes (a ++ old) ++ (b ++ rest))
levelled_both a b old rest long here wide there room =
    let whole : List ℕ = a ++ (b ++ rest) in
    let is : take word_stripes (a ++ old) ++ (b ++ rest) ≡ whole = ap (λ (l : List ℕ). l ++ (b ++ rest)) (take_at a old word_stripes long) in
    record {
      room = room;
      here = λ x l. ap (λ (m : List ℕ). get_or m x 0) is ∙ get_or-append a (b ++ rest) 0 x (omega arith) ∙ here x l;
      there = λ x l.
          ap (λ (m : List ℕ). get_or m (word_stripes + x) 0) is ∙ ap (λ (n : ℕ). get_or whole (n + x) 0) (sym long)
          ∙ get_or-append-add a (b ++ rest) x 0 ∙ get_or-append b rest 0 x (omega arith) ∙ there x l;
    }

-- ---- what that says of the disks

-- The stripes of a disk, as the layout lists them.
module _ {L : Layout} {d low high : ℕ} (x : Crossed L d low high) where
  pub lower-low : lower L d ≡ low
  unfolding first_of
  lower-low = ap first_of x.listed

  pub higher-high : higher L d ≡ high
  unfolding other_than
  higher-high =
      ap₂ other_than lower-low x.listed
      ∙ ap₂ (λ (a b : Bool). cond a (cond b 0 high) low) (eq-eqb low low refl) (bit-zero (eqb high low) x.apart)

-- The level depends on four numbers only.
levels_same : (k : ℕ) {a a₁ b b₁ e e₁ f f₁ : ℕ} → a ≡ a₁ → b ≡ b₁ → e ≡ e₁ → f ≡ f₁
    → cond (leb (a + 1 + b) k) a (cond (leb (e + 1 + f) k) e k) ≡ cond (leb (a₁ + 1 + b₁) k) a₁ (cond (leb (e₁ + 1 + f₁) k) e₁ k)
levels_same k p q u v =
    cc (ap₂ (λ (a b : ℕ). leb (a + 1 + b) k) p q, ap₂ (λ (e f : ℕ). leb (e + 1 + f) k) u v)

-- The levels are how many disks lead to a stripe.
module _ (L : Layout) {c : ℕ → Bool} {near levels : List ℕ} {s t k : ℕ} (n : Near L c near) (v : Levelled near s t k levels)
    (room : L.stripe_bound ≤ word_stripes) where
  level-here : (x : ℕ) → x < L.stripe_bound → get_or levels x 0 ≡ disks_to L c s k x
  level-here x l = v.here x (omega arith) ∙ near_steps L n s k x

  level-there : (x : ℕ) → x < L.stripe_bound → get_or levels (word_stripes + x) 0 ≡ disks_to L c t k x
  level-there x l = v.there x (omega arith) ∙ near_steps L n t k x

  -- So what is read for a disk is its place on a shortest way, where c has it.
  pub level_in_lem : TwoStripes L → Apart L → {d low high : ℕ} → Crossed L d low high
      → level_in near levels low high k ≡ cond (c d) (way_level L c s t k d) k
  unfolding level_in way_level
  level_in_lem two apart {d} {low} {high} x =
      ap₂ (λ (b : Bool) (j : ℕ). cond b j k) (near_own L two apart room n x)
      (levels_same k (level-here low x.low_bound ∙ ap (disks_to L c s k) (sym (lower-low x)))
      (level-there high x.high_bound ∙ ap (disks_to L c t k) (sym (higher-high x)))
      (level-here high x.high_bound ∙ ap (disks_to L c s k) (sym (higher-high x)))
      (level-there low x.low_bound ∙ ap (disks_to L c t k) (sym (lower-low x))))
