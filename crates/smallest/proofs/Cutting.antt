-- The table of neighbours, cut at a set of stripes: of the disks that have just one stripe in the set one alone is kept. Where there is no other,
-- which the stripes of these disks tell, all are kept.
-- Assumes nothing.
use mathlib.Core.Path.{◌≡◌, refl, sym, ◌∙◌, ap, ap₂}
use mathlib.Core.Bool.{Bool, true, false, cond, not, ◌&&◌, ◌||◌, not-not, or-true, true≢false}
use mathlib.Core.Logic.{◌⊎◌, inl, inr, ⊎_elim}
use mathlib.Core.List.{List}
use Prim.Native.Nat.{ℕ, ◌+◌, ◌^◌, ◌≤◌, ◌<◌, zero-le}
use native.Mathlib.Nat.{zero-add, sub-zero}
use native.Mathlib.Omega.{arith}
use borrow.Author.Tests.{eqb-true, eq-eqb, ne_eqb}
use lib.Bits.{bit_or, or_lt, xor_lt}
use lib.Count.{count_trailing_zeros}
use lib.Dec.{eqb}
use lib.ListN.{length, get_or, set}
use Rattle.stripes.specs.System.{Layout, TwoStripes, other_than, lower, higher}
use Rattle.stripes.specs.Joined.{crosses}
use Rattle.stripes.proofs.Fold.{and_left, and_right, and_both, same_test}
use Rattle.stripes.proofs.Degree.{on-bound}
use Rattle.stripes.proofs.Ends.{crosses-from}
use Rattle.stripes.proofs.Joined.{lower_is, higher_is, lower-bound, higher-bound}
use Rattle.zeros.specs.Stored.{stored}
use Rattle.zeros.proofs.Stored.{length-stored, get_or-stored, get_d_after, stored_next}
use Rattle.tally.proofs.Counted.{Crossed}
use Rattle.reach.specs.Reached.{has, some, next_in, word_stripes}
use Rattle.reach.proofs.Words.{has-none, has_one, has_or, has_and, has-without, has_room, lowest_out}
use Rattle.neighbours.specs.Near.{meets, Near, Met}
use Rattle.smallest.specs.Leads.{side_of, cut_table, leaves, on_crossing, leaving_of}
use Rattle.smallest.specs.Ways.{within, kept}
use Rattle.neighbours.proofs.Meeting.{or_which, or_first, or_second, some_found, some_of, other-bound, meets_is, meets_of}
use Rattle.smallest.proofs.Through.{crosses_where}
use Rattle.neighbours.proofs.Neighbours.{Apart, over_which, near_same, near_toggle}

-- ---- the words of the table

-- What is left of the word of stripe s.
abbrev pub sides : (near : List ℕ) (inside : ℕ) → ℕ → ℕ
sides near inside s = side_of (get_or near s 0) inside (has inside s)

-- The code stores one after the other.
pub sides_next : (near : List ℕ) (inside s : ℕ) {part : List ℕ} → part ≡ stored near 0 s (sides near inside) → s < length near
    → {here : Bool} → here ≡ has inside s → {word : ℕ} → word ≡ side_of (get_or part s 0) inside here
    → set part s word ≡ stored near 0 (s + 1) (sides near inside)
sides_next near inside s {part} is l at {word} side =
    let old : get_or part s 0 ≡ get_or near s 0 = ap (λ (m : List ℕ). get_or m s 0) is ∙ get_d_after near 0 s (sides near inside) s (omega arith) in
    ap₂ (λ (m : List ℕ) (i : ℕ). set m i word) is (sym (zero-add s))
    ∙ stored_next near 0 s (sides near inside) word (side ∙ ap₂ (λ (x : ℕ) (b : Bool). side_of x inside b) old at) (omega arith)

-- Just one of two tests holds.
abbrev differ : (a b : Bool) → Bool
differ a b = cond a (not b) b

differ_comm : (a b : Bool) → differ a b ≡ differ b a
differ_comm true true = refl
differ_comm true false = refl
differ_comm false true = refl
differ_comm false false = refl

-- Of the stripes next to stripe s those are left that are in the set as s is, or as s are not.
has_side : (word inside : ℕ) (here : Bool) (t : ℕ) → has (side_of word inside here) t ≡ (has word t && not (differ here (has inside t)))
unfolding side_of
has_side word inside true t = has_and word inside t ∙ ap (λ (b : Bool). has word t && b) (sym (not-not (has inside t)))
has_side word inside false t = has-without word inside t

next_side : (near : List ℕ) (inside s t : ℕ) → length near ≡ word_stripes → s < word_stripes
    → next_in (stored near 0 word_stripes (sides near inside)) s t ≡ (next_in near s t && not (differ (has inside s) (has inside t)))
unfolding next_in
next_side near inside s t long l =
    ap (λ (w : ℕ). has w t)
    (get_or-stored near 0 word_stripes (sides near inside) s (omega arith) zero-le (omega arith)
    ∙ ap (sides near inside) (sub-zero s))
    ∙ has_side (get_or near s 0) inside (has inside s) t

-- ---- the disks
module _ (L : Layout) (two : TwoStripes L) where
  -- A disk from s to t crosses if just one of the two is among some stripes.
  crosses-over : (some : ℕ → Bool) (c : ℕ → Bool) (s t : ℕ) (met : Met L c s t) → crosses L some met.disk ≡ differ (some s) (some t)
  unfolding crosses
  crosses-over some c s t met =
      let d : ℕ = met.disk in
      let low = lower_is L two d met.inside in
      let high = higher_is L two d met.inside in
      ⊎_elim (λ (a, b). ap₂ (λ (x y : ℕ). differ (some x) (some y)) (low ∙ sym a) (high ∙ sym b))
      (λ (a, b). ap₂ (λ (x y : ℕ). differ (some x) (some y)) (low ∙ sym b) (high ∙ sym a) ∙ differ_comm (some t) (some s))
      (over_which L two d s t met.inside (and_both met.here (eq-eqb _ t met.next)))

  -- So without the disks that cross, stripes meet that met before if both are among them or neither.
  meets-side : (some : ℕ → Bool) (c : ℕ → Bool) (s t : ℕ)
      → (meets L c s t && not (differ (some s) (some t))) ≡ meets L (λ i. c i && not (crosses L some i)) s t
  meets-side some c s t =
      let left : ℕ → Bool = λ i. c i && not (crosses L some i) in
      same_test (meets L c s t && not (differ (some s) (some t))) (meets L left s t)
      (λ h.
      let met = meets_is L c s t (and_left (meets L c s t) (not (differ (some s) (some t))) h) in
      meets_of L left s t met.disk met.inside
      (and_both met.held (ap not (crosses-over some c s t met) ∙ and_right (meets L c s t) (not (differ (some s) (some t))) h))
      met.here met.next)
      (λ h.
      let met = meets_is L left s t h in
      let d : ℕ = met.disk in
      and_both
      (meets_of L c s t d met.inside (and_left (c d) (not (crosses L some d)) met.held) met.here met.next)
      (sym (ap not (crosses-over some left s t met)) ∙ and_right (c d) (not (crosses L some d)) met.held))

  -- The same disks cross for the same stripes.
  crosses-same : L.stripe_bound ≤ word_stripes → (some all : ℕ → Bool) → ((x : ℕ) → x < word_stripes → some x ≡ all x)
      → (i : ℕ) → i < L.disks → crosses L some i ≡ crosses L all i
  unfolding crosses
  crosses-same room some all same i l =
      let low = lower-bound L two i l in
      let high = higher-bound L two i l in
      ap₂ differ (same (lower L i) (omega arith)) (same (higher L i) (omega arith))

-- The table so cut is that of the disks that are kept: first all disks that cross are taken out, then the chosen one is put in again.
pub near_cut : (L : Layout) → TwoStripes L → Apart L → L.stripe_bound ≤ word_stripes → {c : ℕ → Bool} {near : List ℕ} → Near L c near
    → (inside s k j : ℕ) → ((x : ℕ) → x < word_stripes → has inside x ≡ within L c s k j x)
    → {d low high : ℕ} → Crossed L d low high → c d ≡ true → crosses L (within L c s k j) d ≡ true
    → {after : List ℕ} → after ≡ cut_table near inside low high → Near L (kept L c s k j d) after
unfolding cut_table kept
near_cut L two apart room {c} {near} n inside s k j same {d} x here out is =
    let some : ℕ → Bool = within L c s k j in
    let long = n.room in
    let parted : Near L (λ i. c i && not (crosses L (has inside) i)) (stored near 0 word_stripes (sides near inside)) =
    record {
      room = length-stored near 0 word_stripes (sides near inside) ∙ long;
      next = λ u t l.
          next_side near inside u t long l ∙ ap (λ (b : Bool). b && not (differ (has inside u) (has inside t))) (n.next u t l)
          ∙ meets-side L two (has inside) c u t;
    } in
    let left : Near L (λ i. c i && not (crosses L some i)) (stored near 0 word_stripes (sides near inside)) =
    near_same L (λ i l. ap (λ (b : Bool). c i && not b) (crosses-same L two room (has inside) some same i l)) parted in
    near_toggle L two apart room left x
    (ap₂ (λ (a b : Bool). a && (b || not (crosses L some d))) here (eq-eqb d d refl) ∙ sym (ap₂ (λ (a b : Bool). not (a && not b)) here out))
    (λ i q. ap (λ (b : Bool). c i && (b || not (crosses L some i))) (ne_eqb i d q)) is

-- ---- the stripes of the disks that cross

-- A disk that leads out of the set has both its stripes on the crossing.
module _ (near : List ℕ) (inside x y : ℕ) (out : leaves near inside x y ≡ true) where
  crossing-far : x < word_stripes → on_crossing near inside y ≡ true
  unfolding on_crossing
  crossing-far l =
      some_of word_stripes (λ t. leaves near inside t y || leaves near inside y t) x l
      (or_first (leaves near inside x y) (leaves near inside y x) out)

  crossing-own : y < word_stripes → on_crossing near inside x ≡ true
  unfolding on_crossing
  crossing-own l =
      some_of word_stripes (λ t. leaves near inside t x || leaves near inside x t) y l
      (or_second (leaves near inside y x) (leaves near inside x y) out)

-- The stripes of the word that one stripe adds.
has_leaving : (word inside s t : ℕ) → let out : ℕ = side_of word inside false in
    has (leaving_of word inside s) t ≡ (not (eqb out 0) && (eqb t s || has out t))
unfolding leaving_of
has_leaving word inside s t = go (eqb (side_of word inside false) 0)
  where
    go : (b : Bool) → let out : ℕ = side_of word inside false in
        has (cond b 0 (bit_or (2 ^ s) out)) t ≡ (not b && (eqb t s || has out t))
    go true = has-none t
    go false = let out : ℕ = side_of word inside false in has_or (2 ^ s) out t ∙ ap (λ (b : Bool). b || has out t) (has_one s t)

-- A word with a stripe is not 0.
not_empty : (set t : ℕ) → has set t ≡ true → not (eqb set 0) ≡ true
not_empty set t h = ap not (ne_eqb set 0 (λ e. true≢false (sym h ∙ ap (λ (w : ℕ). has w t) e ∙ has-none t)))

-- The code gathers these words.
module _ (near : List ℕ) (inside : ℕ) where
  -- The stripes outside that a stripe leads to.
  abbrev outs : ℕ → ℕ
  outs x = side_of (get_or near x 0) inside false

  -- They tell which disks lead out.
  leaves-out : (x t : ℕ) → leaves near inside x t ≡ (has inside x && has (outs x) t)
  unfolding leaves next_in
  leaves-out x t = ap (λ (b : Bool). has inside x && b) (sym (has_side (get_or near x 0) inside false t))

  -- Stripe x adds stripe y.
  abbrev adds : (y x : ℕ) → Bool
  adds y x = has inside x && has (leaving_of (get_or near x 0) inside x) y

  -- A stripe adds those that its disks lead to, and itself.
  adds-of : (x t y : ℕ) → leaves near inside x t ≡ true → (eqb y x || has (outs x) y) ≡ true → adds y x ≡ true
  adds-of x t y out h =
      let both : (has inside x && has (outs x) t) ≡ true = sym (leaves-out x t) ∙ out in
      and_both (and_left (has inside x) (has (outs x) t) both)
      (has_leaving (get_or near x 0) inside x y ∙ and_both (not_empty (outs x) t (and_right (has inside x) (has (outs x) t) both)) h)

  module _ (fits : inside < 2 ^ 64) (words : (x : ℕ) → get_or near x 0 < 2 ^ 64) where
    outs-fit : (x : ℕ) → outs x < 2 ^ 64
    unfolding side_of
    outs-fit x = xor_lt 64 (bit_or (get_or near x 0) inside) inside (or_lt 64 (get_or near x 0) inside (words x) fits) fits

    -- What it adds lies on a disk that leads out.
    adds-is : (x y : ℕ) → x < word_stripes → adds y x ≡ true → on_crossing near inside y ≡ true
    adds-is x y l h =
        let here : has inside x ≡ true = and_left (has inside x) (has (leaving_of (get_or near x 0) inside x) y) h in
        let word : (not (eqb (outs x) 0) && (eqb y x || has (outs x) y)) ≡ true =
        sym (has_leaving (get_or near x 0) inside x y) ∙ and_right (has inside x) (has (leaving_of (get_or near x 0) inside x) y) h in
        let any : not (eqb (outs x) 0) ≡ true = and_left (not (eqb (outs x) 0)) (eqb y x || has (outs x) y) word in
        ⊎_elim
        (λ q.
        let out = lowest_out (outs x) (λ e. true≢false (sym any ∙ ap not (eq-eqb (outs x) 0 e))) (outs-fit x) in
        ap (on_crossing near inside) (eqb-true y x q)
        ∙ crossing-own near inside x (count_trailing_zeros 64 (outs x)) (leaves-out x (count_trailing_zeros 64 (outs x)) ∙ and_both here out.member)
        out.small)
        (λ q. crossing-far near inside x y (leaves-out x y ∙ and_both here q) l)
        (or_which (eqb y x) (has (outs x) y) (and_right (not (eqb (outs x) 0)) (eqb y x || has (outs x) y) word))

    -- So what all stripes of the set add is the crossing.
    pub crossing_all : (y : ℕ) → some word_stripes (adds y) ≡ on_crossing near inside y
    unfolding on_crossing
    crossing_all y =
        same_test (some word_stripes (adds y)) (on_crossing near inside y)
        (λ h. let (x, l, e) = some_found word_stripes (adds y) h in adds-is x y l e)
        (λ h.
        let (x, l, e) = some_found word_stripes (λ x. leaves near inside x y || leaves near inside y x) h in
        ⊎_elim
        (λ q.
        some_of word_stripes (adds y) x l
        (adds-of x y y q
        (or_second (eqb y x) (has (outs x) y) (and_right (has inside x) (has (outs x) y) (sym (leaves-out x y) ∙ q)))))
        (λ q.
        some_of word_stripes (adds y) y
        (has_room inside y fits (and_left (has inside y) (has (outs y) x) (sym (leaves-out y x) ∙ q)))
        (adds-of y x y q (or_first (eqb y y) (has (outs y) y) (eq-eqb y y refl))))
        (or_which (leaves near inside x y) (leaves near inside y x) e))

-- A set of two stripes has no other.
has-two : (low high x : ℕ) → has (bit_or (2 ^ low) (2 ^ high)) x ≡ true → (x ≡ low) ⊎ (x ≡ high)
has-two low high x h =
    ⊎_elim (λ q. inl (eqb-true x low (sym (has_one low x) ∙ q))) (λ q. inr (eqb-true x high (sym (has_one high x) ∙ q)))
    (or_which (has (2 ^ low) x) (has (2 ^ high) x) (sym (has_or (2 ^ low) (2 ^ high) x) ∙ h))

-- A disk of the table that crosses has both its stripes on the crossing.
crossing_ends : (L : Layout) (two : TwoStripes L) → L.stripe_bound ≤ word_stripes → {c : ℕ → Bool} {near : List ℕ} → Near L c near
    → (inside i : ℕ) → i < L.disks → c i ≡ true → crosses L (has inside) i ≡ true
    → (on_crossing near inside (two.low i) ≡ true) × (on_crossing near inside (two.high i) ≡ true)
unfolding leaves
crossing_ends L two room {c} {near} n inside i l held out =
    let (x, there, here) = crosses_where L two (has inside) i l out in
    let y : ℕ = other_than x (L.through i) in
    let own = on-bound L two i l x there in
    let far = other-bound L two i l x there in
    let way : leaves near inside x y ≡ true =
    and_both here
    (and_both (n.next x y (omega arith) ∙ meets_of L c x y i l held there refl) (sym (crosses-from L two (has inside) i l x there here) ∙ out)) in
    let mine = crossing-own near inside x y way (omega arith) in
    let other = crossing-far near inside x y way (omega arith) in
    ⊎_elim (λ (a, b). (ap (on_crossing near inside) (sym a) ∙ mine, ap (on_crossing near inside) (sym b) ∙ other))
    (λ (a, b). (ap (on_crossing near inside) (sym b) ∙ other, ap (on_crossing near inside) (sym a) ∙ mine))
    (over_which L two i x y l (and_both there (eq-eqb y y refl)))

-- Where the crossing is the two stripes of one disk, no other disk crosses, so that nothing is dropped.
pub cut-alone : (L : Layout) → TwoStripes L → Apart L → L.stripe_bound ≤ word_stripes → {c : ℕ → Bool} {near : List ℕ} → Near L c near
    → (inside s k j : ℕ) → ((x : ℕ) → x < word_stripes → has inside x ≡ within L c s k j x) → {d low high : ℕ} → Crossed L d low high
    → (r : ℕ) → ((y : ℕ) → has r y ≡ on_crossing near inside y) → r ≡ bit_or (2 ^ low) (2 ^ high)
    → (i : ℕ) → i < L.disks → kept L c s k j d i ≡ c i
unfolding kept
cut-alone L two apart room {c} {near} n inside s k j same {d} {low} {high} pair r is both i l =
    go (c i) (crosses L (within L c s k j) i) refl refl
  where
    member : (x : ℕ) → on_crossing near inside x ≡ true → (x ≡ low) ⊎ (x ≡ high)
    member x h = has-two low high x (ap (λ (w : ℕ). has w x) (sym both) ∙ is x ∙ h)

    alone : c i ≡ true → crosses L (within L c s k j) i ≡ true → i ≡ d
    alone held out =
        let (first, last) = crossing_ends L two room n inside i l held (crosses-same L two room (has inside) _ same i l ∙ out) in
        let mine = two.two i l in
        let own = two.two d pair.disk in
        let listed = pair.listed in
        let less = two.order i l in
        let more = two.order d pair.disk in
        let lower : low ≡ two.low d = cc in
        let upper : high ≡ two.high d = cc in
        apart i d l pair.disk
        (⊎_elim
        (λ (a : two.low i ≡ low). ⊎_elim (λ (b : two.high i ≡ low). absurd (omega arith)) (λ (b : two.high i ≡ high). cc) (member _ last))
        (λ (a : two.low i ≡ high).
        ⊎_elim (λ (b : two.high i ≡ low). absurd (omega arith)) (λ (b : two.high i ≡ high). absurd (omega arith)) (member _ last))
        (member _ first))

    go : (a b : Bool) → c i ≡ a → crosses L (within L c s k j) i ≡ b → (a && (eqb i d || not b)) ≡ a
    go false b h q = refl
    go true false h q = or-true (eqb i d)
    go true true h q = or_first (eqb i d) false (eq-eqb i d (alone h q))
