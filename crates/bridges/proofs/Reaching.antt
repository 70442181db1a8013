-- The stripes that are reached, as words: one stripe more, a part from its beginning to its end, and all parts.
-- Assumes nothing.
use mathlib.Core.Path.{◌≡◌, refl, sym, ◌∙◌, ap, subst}
use mathlib.Core.Bool.{Bool, true, false, cond, not, ◌&&◌, ◌||◌, or-false, true≢false}
use mathlib.Core.Logic.{⊎_elim}
use mathlib.Core.List.{List}
use Prim.Native.Nat.{ℕ, ◌^◌, ◌<◌}
use native.Mathlib.Omega.{arith}
use borrow.Author.Tests.{ne_eqb, eqb-false, not-true}
use lib.Bits.{bit_and, bit_or, bit_xor}
use lib.Dec.{eqb}
use lib.ListN.{length, get_or, set, length-set}
use lib.Seq.{get_or-set_same, get_or-set_other}
use Rattle.stripes.specs.Fold.{◌⊕◌, count, bit}
use Rattle.stripes.specs.System.{Layout, TwoStripes}
use Rattle.stripes.proofs.Fold.{by_cases, and_both, and_left, and_right, or_left, count_but}
use Rattle.reach.specs.Reached.{has, next_in, word_stripes}
use Rattle.reach.proofs.Words.{Without, has-none, has_one, has_or, has_and, has_xor, has-without, has_room}
use Rattle.neighbours.specs.Near.{Met, Near}
use Rattle.neighbours.proofs.Meeting.{or_which, or_first, or_second, some_found, some_of, meets_is, meets_of}
use Rattle.neighbours.proofs.Neighbours.{Apart}
use Rattle.bridges.specs.Forest.{way_in, Grown, Growing, Beside, on_one}
use Rattle.bridges.proofs.Forest.{With, with_u, with_old, was_old, split, put_same, put_other, met_back, no_loop, forest-none, forest-root, forest_link}

-- A stripe put into a set.
pub with_one : (a u : ℕ) → With (has a) u (has (bit_or a (2 ^ u)))
with_one a u = record { is = λ x. has_or a (2 ^ u) x ∙ ap (λ (b : Bool). has a x || b) (has_one u x) }

-- The way of one stripe stored.
module _ (ways : List ℕ) (u way : ℕ) (l : u < length ways) where
  way-stored : (t : ℕ) → way_in (set ways u way) u t ≡ has way t
  way-stored t = ap (λ (w : ℕ). has w t) (get_or-set_same ways u way 0 l)

  way_kept : (x : ℕ) → (x ≡ u → ⊥) → (t : ℕ) → way_in (set ways u way) x t ≡ way_in ways x t
  way_kept x q t = ap (λ (w : ℕ). has w t) (get_or-set_other ways u x way 0 q)

-- Two ways differ in a link exactly if just one of them has it.
module _ (a b t : ℕ) where
  same_way : has a t ≡ has b t → has (a ⊕ b) t ≡ false
  unfolding ◌⊕◌
  same_way h = has_xor a b t ∙ ap (λ (x : Bool). cond x (not (has b t)) (has b t)) h ∙ none (has b t)
    where
      none : (x : Bool) → cond x (not x) x ≡ false
      none true = refl
      none false = refl

  other_way : has (a ⊕ b) t ≡ false → has a t ≡ has b t
  unfolding ◌⊕◌
  other_way h = both (has a t) (has b t) (sym (has_xor a b t) ∙ h)
    where
      both : (x y : Bool) → cond x (not y) y ≡ false → x ≡ y
      both true true h = refl
      both true false h = absurd (true≢false h)
      both false y h = sym h

module _ (L : Layout) (two : TwoStripes L) (apart : Apart L) {e : ℕ → Bool} {near : List ℕ} (n : Near L e near) where
  -- The table says which stripes a disk leads to.
  next-met : (s t : ℕ) → s < word_stripes → next_in near s t ≡ true → Met L e s t
  next-met s t l h = meets_is L e s t (sym (n.next s t l) ∙ h)

  met_next : (s t : ℕ) → s < word_stripes → Met L e s t → next_in near s t ≡ true
  met_next s t l m = n.next s t l ∙ meets_of L e s t m.disk m.inside m.held m.here m.next

  module _ {seen links closed : ℕ} {ways : List ℕ} where
    -- ---- one stripe more, in a part that is begun
    module _ (fits : seen < 2 ^ 64) (g : Growing L e seen links closed ways) {u : ℕ} (small : u < word_stripes) (b : Beside L e seen u) where
      -- Its neighbours that are reached: there are some.
      back_is : (y : ℕ) → has (bit_and (get_or near u 0) seen) y ≡ (next_in near u y && has seen y)
      unfolding next_in
      back_is y = has_and (get_or near u 0) seen y

      pub back_some : bit_and (get_or near u 0) seen ≡ 0 → ⊥
      back_some none =
          true≢false
          (sym (back_is b.next ∙ and_both (met_next u b.next small b.met) b.reached) ∙ ap (λ (w : ℕ). has w b.next) none
          ∙ has-none b.next)

      module _ {from rest : ℕ} (out : Without (bit_and (get_or near u 0) seen) from rest) (shuts : ℕ)
          (is : (t : ℕ) → has shuts t ≡ on_one ways (bit_or (get_or ways from 0) (2 ^ u)) rest t) where
        abbrev way : ℕ
        way = bit_or (get_or ways from 0) (2 ^ u)

        place : u < length ways
        place = let room = g.room in omega arith

        near-from : has seen from ≡ true
        near-from = and_right (next_in near u from) (has seen from) (sym (back_is from) ∙ out.member)

        met-from : Met L e u from
        met-from = next-met u from small (and_left (next_in near u from) (has seen from) (sym (back_is from) ∙ out.member))

        in_part_lem : (y : ℕ) → has seen y ≡ true → Met L e u y → g.forest.root y ≡ g.part
        in_part_lem y h m = g.edge y u (met_back L two e u y m) h b.unseen

        -- The other neighbours.
        rest-is : (y : ℕ) → has rest y ≡ true → (has seen y ≡ true) × Met L e u y × (y ≡ from → ⊥)
        rest-is y h =
            let both = sym (out.others y) ∙ h in
            let back = sym (back_is y) ∙ and_left (has (bit_and (get_or near u 0) seen) y) (not (eqb y from)) both in (
              and_right (next_in near u y) (has seen y) back,
              next-met u y small (and_left (next_in near u y) (has seen y) back),
              eqb-false y from (not-true (eqb y from) (and_right (has (bit_and (get_or near u 0) seen) y) (not (eqb y from)) both)),
            )

        is-rest : (y : ℕ) → has seen y ≡ true → Met L e u y → (y ≡ from → ⊥) → has rest y ≡ true
        is-rest y h m off = out.others y ∙ and_both (back_is y ∙ and_both (met_next u y small m) h) (ap not (ne_eqb y from off))

        some-close : (t : ℕ) → has shuts t ≡ true
            → (y : ℕ) × (has seen y ≡ true) × Met L e u y × (y ≡ from → ⊥) × (way_in (set ways u way) u t ≡ way_in ways y t → ⊥)
        unfolding on_one
        some-close t h =
            let (y, l, k) = some_found word_stripes (λ s. has rest s && has (way ⊕ get_or ways s 0) t) (sym (is t) ∙ h) in
            let (there, m, off) = rest-is y (and_left (has rest y) (has (way ⊕ get_or ways y 0) t) k) in (
              y,
              there,
              m,
              off,
              λ same.
                  true≢false
                  (sym (and_right (has rest y) (has (way ⊕ get_or ways y 0) t) k) ∙ same_way way (get_or ways y 0) t (sym (way-stored ways u way place t) ∙ same)),
            )

        none-close : (t : ℕ) → has shuts t ≡ false → (y : ℕ) → has seen y ≡ true → Met L e u y → (y ≡ from → ⊥)
            → way_in (set ways u way) u t ≡ way_in ways y t
        unfolding on_one
        none-close t h y there m off =
            way-stored ways u way place t
            ∙ other_way way (get_or ways y 0) t
            (by_cases (λ (x : Bool). has (way ⊕ get_or ways y 0) t ≡ x → x ≡ false) (has (way ⊕ get_or ways y 0) t)
            (λ _ k.
            absurd
            (true≢false
            (sym (some_of word_stripes (λ s. has rest s && has (way ⊕ get_or ways s 0) t) y (has_room seen y fits there) (and_both (is-rest y there m off) k))
            ∙ sym (is t) ∙ h)))
            (λ _ k. refl) refl)

        -- It is reached over the disk from the lowest of them.
        pub reached-one : Growing L e (bit_or seen (2 ^ u)) (bit_or links (2 ^ u)) (bit_or closed shuts) (set ways u way)
        reached-one =
            let f = g.forest in
            let (grown, roots) =
            forest_link L two e f b.unseen (with_one seen u) apart near-from met-from
            (λ y h m. in_part_lem y h m ∙ sym (in_part_lem from near-from met-from)) (with_one links u) (way_kept ways u way place)
            (λ t.
            way-stored ways u way place t ∙ has_or (get_or ways from 0) (2 ^ u) t
            ∙ ap (λ (x : Bool). has (get_or ways from 0) t || x) (has_one u t))
            (λ t. has_or closed shuts t) some-close none-close in
            record {
              room = length-set ways u way ∙ g.room;
              forest = grown;
              part = g.part;
              edge =
                  split
                  (λ x. (v : ℕ) → Met L e x v → has (bit_or seen (2 ^ u)) x ≡ true → has (bit_or seen (2 ^ u)) v ≡ false → grown.root x ≡ g.part) u
                  (λ v m _ _. roots u ∙ put_same u (f.root from) f.root ∙ in_part_lem from near-from met-from)
                  (λ x off v m h k.
                  roots x ∙ put_other u (f.root from) f.root x off
                  ∙ g.edge x v m (was_old (with_one seen u) x off h) (or_left (has seen v) (eqb v u) (sym ((with_one seen u).is v) ∙ k)));
            }

    -- ---- a stripe that begins a part
    module _ (g : Grown L e seen links closed ways) {u : ℕ} (small : u < word_stripes) (unseen : has seen u ≡ false) where
      -- No disk leads to it from a reached stripe.
      alone : (y : ℕ) → has seen y ≡ true → Met L e u y → ⊥
      alone y h m = true≢false (sym (g.whole y u (met_back L two e u y m) h) ∙ unseen)

      pub part_begun : Growing L e (bit_or seen (2 ^ u)) links closed (set ways u 0)
      part_begun =
          let f = g.forest in
          let place : u < length ways = let room = g.room in omega arith in
          let (grown, roots) =
          forest-root L two e f unseen (with_one seen u) alone (λ t. way-stored ways u 0 place t ∙ has-none t) (way_kept ways u 0 place) in
          record {
            room = length-set ways u 0 ∙ g.room;
            forest = grown;
            part = u;
            edge =
                split (λ x. (v : ℕ) → Met L e x v → has (bit_or seen (2 ^ u)) x ≡ true → has (bit_or seen (2 ^ u)) v ≡ false → grown.root x ≡ u) u
                (λ v m _ _. roots u ∙ put_same u u f.root)
                (λ x off v m h k.
                absurd
                (true≢false
                (sym (with_old (with_one seen u) v (g.whole x v m (was_old (with_one seen u) x off h))) ∙ k)));
          }

-- ---- a part from its beginning to its end

-- A part is being reached. The stripes ahead are those that a disk leads to from a reached one; those that were reached at first still are.
pub record Spreading (L : Layout) (e : ℕ → Bool) (first seen links closed : ℕ) (ways : List ℕ) (ahead : ℕ) : Type 0 where
  pub growing : Growing L e seen links closed ways
  pub seen_fits : seen < 2 ^ 64
  pub ahead_fits : ahead < 2 ^ 64
  pub kept : (t : ℕ) → has first t ≡ true → has seen t ≡ true
  pub offered : (v : ℕ) → has ahead v ≡ true → Beside L e seen v
  pub waiting : (x v : ℕ) → Met L e x v → has seen x ≡ true → has seen v ≡ false → has ahead v ≡ true

module _ (L : Layout) (two : TwoStripes L) (apart : Apart L) {e : ℕ → Bool} {near : List ℕ} (n : Near L e near) where
  pub spread_begin : {seen links closed : ℕ} {ways : List ℕ} → Grown L e seen links closed ways → (u : ℕ) → u < word_stripes → has seen u ≡ false
      → bit_or seen (2 ^ u) < 2 ^ 64 → get_or near u 0 < 2 ^ 64
      → Spreading L e (bit_or seen (2 ^ u)) (bit_or seen (2 ^ u)) links closed (set ways u 0) (get_or near u 0)
  unfolding next_in
  spread_begin {seen} g u small unseen fits more =
      record {
        growing = part_begun L two apart n g small unseen;
        seen_fits = fits;
        ahead_fits = more;
        kept = λ t h. h;
        offered = λ v h.
            let m = next-met L two apart n u v small h in
            let off : v ≡ u → ⊥ = λ p. no_loop L two e u (subst (λ (s : ℕ). Met L e u s) p m) in
            record {
              unseen =
                  by_cases (λ (b : Bool). has (bit_or seen (2 ^ u)) v ≡ b → b ≡ false) (has (bit_or seen (2 ^ u)) v)
                  (λ _ k. absurd (alone L two apart n g small unseen v (was_old (with_one seen u) v off k) m)) (λ _ k. refl) refl;
              next = u;
              reached = with_u (with_one seen u);
              met = met_back L two e u v m;
            };
        waiting =
            split (λ x. (v : ℕ) → Met L e x v → has (bit_or seen (2 ^ u)) x ≡ true → has (bit_or seen (2 ^ u)) v ≡ false → has (get_or near u 0) v ≡ true) u
            (λ v m _ _. met_next L two apart n u v small m)
            (λ x off v m h k. absurd (true≢false (sym (with_old (with_one seen u) v (g.whole x v m (was_old (with_one seen u) x off h))) ∙ k)));
      }

  -- One of the stripes ahead is reached, and those that disks lead to from it come to the others.
  pub spread_next : {first seen links closed : ℕ} {ways : List ℕ} {ahead : ℕ} → Spreading L e first seen links closed ways ahead
      → (v : ℕ) → v < word_stripes → {seen' links' closed' : ℕ} {ways' : List ℕ} → Growing L e seen' links' closed' ways' → seen' < 2 ^ 64
      → ((t : ℕ) → has seen' t ≡ (has seen t || eqb t v)) → bit_xor (bit_or (bit_or ahead (get_or near v 0)) seen') seen' < 2 ^ 64
      → Spreading L e first seen' links' closed' ways' (bit_xor (bit_or (bit_or ahead (get_or near v 0)) seen') seen')
  unfolding next_in
  spread_next {first} {seen} {links} {closed} {ways} {ahead} h v small {seen'} g fits saw more =
      record {
        growing = g;
        seen_fits = fits;
        ahead_fits = more;
        kept = λ t k. with_old w t (h.kept t k);
        offered = λ t k.
            let both = sym (ahead-is t) ∙ k in
            let off : has seen' t ≡ false = not-true (has seen' t) (and_right (has ahead t || has (get_or near v 0) t) (not (has seen' t)) both) in
            ⊎_elim
            (λ q.
            let b = h.offered t q in
            record { unseen = off; next = b.next; reached = with_old w b.next b.reached; met = b.met })
            (λ q. record { unseen = off; next = v; reached = with_u w; met = met_back L two e v t (next-met L two apart n v t small q) })
            (or_which (has ahead t) (has (get_or near v 0) t) (and_left (has ahead t || has (get_or near v 0) t) (not (has seen' t)) both));
        waiting = λ x t m k off.
            ahead-is t
            ∙ and_both
            (split (λ x. Met L e x t → has seen' x ≡ true → (has ahead t || has (get_or near v 0) t) ≡ true) v
            (λ m _. or_second (has ahead t) (has (get_or near v 0) t) (met_next L two apart n v t small m))
            (λ x p m k.
            or_first (has ahead t) (has (get_or near v 0) t)
            (h.waiting x t m (was_old w x p k) (or_left (has seen t) (eqb t v) (sym (saw t) ∙ off))))
            x m k)
            (ap not off);
      }
    where
      w : With (has seen) v (has seen')
      w = record { is = saw }

      ahead-is : (t : ℕ) → has (bit_xor (bit_or (bit_or ahead (get_or near v 0)) seen') seen') t ≡ ((has ahead t || has (get_or near v 0) t) && not (has seen' t))
      ahead-is t =
          has-without (bit_or ahead (get_or near v 0)) seen' t ∙ ap (λ (b : Bool). b && not (has seen' t)) (has_or ahead (get_or near v 0) t)

  -- Where none is ahead, the part is reached as a whole.
  pub spread_end : {first seen links closed : ℕ} {ways : List ℕ} {ahead : ℕ} → Spreading L e first seen links closed ways ahead → ahead ≡ 0
      → Grown L e seen links closed ways
  spread_end {first} {seen} h none =
      record {
        room = h.growing.room;
        forest = h.growing.forest;
        whole = λ x v m k.
            by_cases (λ (b : Bool). has seen v ≡ b → b ≡ true) (has seen v) (λ _ q. refl)
            (λ _ q. absurd (true≢false (sym (h.waiting x v m k q) ∙ ap (λ (w : ℕ). has w v) none ∙ has-none v))) refl;
      }

-- The stripes that are not reached are fewer with each.
pub fewer_unseen : (seen seen' v : ℕ) → v < word_stripes → has seen v ≡ false → ((t : ℕ) → has seen' t ≡ (has seen t || eqb t v))
    → count word_stripes (λ t. not (has seen' t)) < count word_stripes (λ t. not (has seen t))
unfolding bit
fewer_unseen seen seen' v l unseen saw =
    let w : With (has seen) v (has seen') = record { is = saw } in
    let one =
    count_but word_stripes (λ t. not (has seen t)) (λ t. not (has seen' t)) v l (ap not (with_u w))
    (λ t off. ap not (saw t ∙ ap (λ (b : Bool). has seen t || b) (ne_eqb t v off) ∙ or-false (has seen t))) in
    let here : bit (not (has seen v)) ≡ 1 = ap (λ (b : Bool). bit (not b)) unseen in
    omega arith

-- ---- all parts

-- Nothing is reached at first.
pub none_grown : (L : Layout) (e : ℕ → Bool) (ways : List ℕ) → length ways ≡ word_stripes → Grown L e 0 0 0 ways
none_grown L e ways room =
    record {
      room = room;
      forest = forest-none L e (has 0) (has 0) (has 0) (way_in ways) has-none has-none has-none;
      whole = λ x v m h. absurd (true≢false (sym h ∙ has-none x));
    }
