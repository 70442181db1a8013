-- When all stripes are reached: the disks of the links that are not closed are the determined ones, and all other disks of the set are not.
-- Assumes nothing.
use mathlib.Core.Path.{◌≡◌, refl, sym, ◌∙◌, ap, ap₂}
use mathlib.Core.Bool.{Bool, true, false, not, ◌&&◌, ◌||◌, true≢false}
use mathlib.Core.Logic.{⊎_elim}
use Prim.Native.Nat.{ℕ, ◌+◌, ◌<◌}
use native.Mathlib.Nat.{le_antisymm}
use borrow.Author.Tests.{eq-eqb, eqb-true, eqb-false, not-true}
use lib.Dec.{eqb}
use Rattle.stripes.specs.Fold.{count, bit}
use Rattle.stripes.specs.System.{Layout, TwoStripes, on, lower, higher}
use Rattle.stripes.specs.Erased.{without}
use Rattle.stripes.specs.Joined.{joined}
use Rattle.stripes.specs.Undetermined.{undetermined, determined, lost}
use Rattle.stripes.proofs.Fold.{by_cases, and_both, and_left, and_right, count_split}
use Rattle.stripes.proofs.Counts.{count_injects}
use Rattle.stripes.proofs.Degree.{on-low}
use Rattle.stripes.proofs.Peel.{without_sub, without-apart, without_other}
use Rattle.stripes.proofs.Joined.{lower_is, joined_back, joined_chain, joined-least}
use Rattle.reach.specs.Reached.{word_stripes}
use Rattle.neighbours.specs.Near.{Met}
use Rattle.neighbours.proofs.Meeting.{or_second}
use Rattle.bridges.specs.Forest.{Forest, from_over}
use Rattle.bridges.proofs.Forest.{joined_wider, either_end, one_of_both}

module _ (L : Layout) (two : TwoStripes L) (e : ℕ → Bool) {seen links closed : ℕ → Bool} {way : ℕ → ℕ → Bool} (f : Forest L e seen links closed way)
    (low-seen : (d : ℕ) → d < L.disks → e d ≡ true → seen (lower L d) ≡ true)
    (high-seen : (d : ℕ) → d < L.disks → e d ≡ true → seen (higher L d) ≡ true) where
  -- A disk of the set leads from its lower stripe to its higher one.
  own : (d : ℕ) → d < L.disks → e d ≡ true → Met L e (lower L d) (higher L d)
  own d l h =
      record {
        disk = d;
        inside = l;
        held = h;
        here = ap (on L d) (lower_is L two d l) ∙ on-low L two d l;
        next = refl;
      }

  -- ---- the disk of a link that is not closed

  -- It is the only one that leads from stripes with the link on their way to others. So it is determined.
  pub bridge : (t : ℕ) → links t ≡ true → closed t ≡ false → undetermined L e (f.disk t) ≡ false
  unfolding undetermined own
  bridge t l loose =
      by_cases (λ (b : Bool). undetermined L e (f.disk t) ≡ b → b ≡ false) (undetermined L e (f.disk t))
      (λ _ h.
      let c : ℕ → Bool = without e (f.disk t) in
      let s : ℕ = from_over L f.disk t in
      let j : joined L c t s ≡ true =
      either_end L two c (f.disk t) t (f.inside t l) (f.here t l) ∙ and_right (e (f.disk t)) (joined L c (lower L (f.disk t)) (higher L (f.disk t))) h in
      let same : side t ≡ side s = joined-least L c (λ x y. side x ≡ side y) (record {
        self = λ x. refl;
        back = λ x y p. sym p;
        chain = λ x y z p q. p ∙ q;
        disk = λ d w k.
            let held : e d ≡ true = without_sub e (f.disk t) d k in
            ap₂ (λ (a b : Bool). a && b) (low-seen d w held ∙ sym (high-seen d w held))
            (f.alike (lower L d) (higher L d) t (own d w held) (low-seen d w held) (high-seen d w held) l loose (without-apart e (f.disk t) d k));
      }) t s j in
      let on-it : side t ≡ true =
      and_both (f.reached t l) (f.longer t l t ∙ or_second (way s t) (eqb t t) (eq-eqb t t refl)) in
      let off-it : side s ≡ false = ap₂ (λ (a b : Bool). a && b) (f.before t l) (f.fresh t l) in
      absurd (true≢false (sym on-it ∙ same ∙ off-it)))
      (λ _ h. refl)
      refl
    where
      side : ℕ → Bool
      side x = seen x && way x t

  -- ---- any other disk

  -- The disks of the links join its two stripes.
  pub other : (d : ℕ) → d < L.disks → e d ≡ true → f.tree d ≡ false → undetermined L e d ≡ true
  unfolding undetermined
  other d l h off =
      let c : ℕ → Bool = without e d in
      let wide : (x y : ℕ) → joined L f.tree x y ≡ true → joined L c x y ≡ true =
      joined_wider L f.tree c
      (λ i k.
      let (t, link, p) = f.tree_link i k in
      without_other e d i (λ q. true≢false (sym k ∙ ap f.tree q ∙ off)) ∙ ap e (sym p) ∙ f.held t link) in
      let a : ℕ = lower L d in
      let b : ℕ = higher L d in
      let part : f.root a ≡ f.root b = f.together a b (own d l h) (low-seen d l h) (high-seen d l h) in
      and_both h
      (joined_chain L c a (f.root a) b (wide a (f.root a) (f.to_root a (low-seen d l h)))
      (joined_back L c b (f.root a) (rw part (wide b (f.root b) (f.to_root b (high-seen d l h))))))

  -- ---- how many

  -- The link of a disk.
  child : (d : ℕ) (b : Bool) → f.tree d ≡ b → ℕ
  child d true h = (f.tree_link d h).0
  child d false h = 0

  link_of : ℕ → ℕ
  link_of d = child d (f.tree d) refl

  link-of : (d : ℕ) → f.tree d ≡ true → (links (link_of d) ≡ true) × (f.disk (link_of d) ≡ d)
  unfolding link_of child
  link-of d = go (f.tree d) refl
    where
      go : (b : Bool) (h : f.tree d ≡ b) → b ≡ true → (links (child d b h) ≡ true) × (f.disk (child d b h) ≡ d)
      go true h _ = let (t, link, is) = f.tree_link d h in (link, is)
      go false h q = absurd (true≢false (sym q))

  -- A link has itself on its way.
  has-own : (t : ℕ) → links t ≡ true → way t t ≡ true
  has-own t l = f.longer t l t ∙ or_second (way (from_over L f.disk t) t) (eqb t t) (eq-eqb t t refl)

  -- A link with the disk of another one is what that one is reached from.
  met-from : (s t : ℕ) → links s ≡ true → links t ≡ true → (s ≡ t → ⊥) → f.disk s ≡ f.disk t → from_over L f.disk t ≡ s
  met-from s t h k off p =
      ⊎_elim (λ (q : s ≡ t). absurd (off q)) (λ (q : s ≡ from_over L f.disk t). sym q)
      (one_of_both L two e (f.disk t) t s (f.inside t k) (f.here t k) (ap (λ (d : ℕ). on L d s) (sym p) ∙ f.here s h))

  -- Two links have two disks: else each would be reached from the other.
  disks-differ : (s t : ℕ) → links s ≡ true → links t ≡ true → f.disk s ≡ f.disk t → s ≡ t
  disks-differ s t h k p =
      by_cases (λ (b : Bool). eqb s t ≡ b → s ≡ t) (eqb s t) (λ _ q. eqb-true s t q)
      (λ _ q. absurd (never (eqb-false s t q))) refl
    where
      never : (s ≡ t → ⊥) → ⊥
      never off =
          let to-s : from_over L f.disk t ≡ s = met-from s t h k off p in
          let to-t : from_over L f.disk s ≡ t = met-from t s k h (λ q. off (sym q)) (sym p) in
          let own : way s s ≡ true = has-own s h in
          let both : way t s ≡ true = f.longer t k s ∙ ap (λ (b : Bool). b || eqb s t) (ap (λ (x : ℕ). way x s) to-s ∙ own) in
          true≢false (sym both ∙ ap (λ (x : ℕ). way x s) (sym to-t) ∙ f.fresh s h)

  abbrev pub bridges : ℕ → Bool
  bridges t = links t && not (closed t)

  pub bridges_determined : ((t : ℕ) → links t ≡ true → t < word_stripes) → count L.disks (determined L e) ≡ count word_stripes bridges
  unfolding determined
  bridges_determined small =
      le_antisymm
      (count_injects L.disks word_stripes (determined L e) bridges link_of
      (λ d l q.
      let h : e d ≡ true = and_left (e d) (not (undetermined L e d)) q in
      let known : undetermined L e d ≡ false = not-true (undetermined L e d) (and_right (e d) (not (undetermined L e d)) q) in
      let (link, is) = link-of d (in_tree d l h known) in
      (small (link_of d) link, and_both link (loose (link_of d) (ap (undetermined L e) is ∙ known))))
      (λ d i l w q r same.
      let (_, is) = link-of d (found d l q) in
      let (_, own) = link-of i (found i w r) in
      sym is ∙ ap f.disk same ∙ own))
      (count_injects word_stripes L.disks bridges (determined L e) f.disk
      (λ t l q.
      let link : links t ≡ true = and_left (links t) (not (closed t)) q in
      let shut : closed t ≡ false = not-true (closed t) (and_right (links t) (not (closed t)) q) in
      (f.inside t link, and_both (f.held t link) (ap not (bridge t link shut))))
      (λ s t l w q r same. disks-differ s t (and_left (links s) (not (closed s)) q) (and_left (links t) (not (closed t)) r) same))
    where
      in_tree : (d : ℕ) → d < L.disks → e d ≡ true → undetermined L e d ≡ false → f.tree d ≡ true
      in_tree d l h known =
          by_cases (λ (b : Bool). f.tree d ≡ b → b ≡ true) (f.tree d) (λ _ q. refl) (λ _ q. absurd (true≢false (sym (other d l h q) ∙ known))) refl

      found : (d : ℕ) → d < L.disks → determined L e d ≡ true → f.tree d ≡ true
      found d l q =
          in_tree d l (and_left (e d) (not (undetermined L e d)) q)
          (not-true (undetermined L e d) (and_right (e d) (not (undetermined L e d)) q))

      loose : (t : ℕ) → undetermined L e (f.disk t) ≡ false → not (closed t) ≡ true
      loose t known =
          by_cases (λ (b : Bool). closed t ≡ b → not b ≡ true) (closed t) (λ _ q. absurd (true≢false (sym (f.sound t q) ∙ known))) (λ _ q. refl) refl

  -- So all disks of the set but these are undetermined.
  pub bridges_lost : ((t : ℕ) → links t ≡ true → t < word_stripes) → lost L e + count word_stripes bridges ≡ count L.disks e
  unfolding lost determined undetermined bit
  bridges_lost small =
      ap (λ (n : ℕ). lost L e + n) (sym (bridges_determined small))
      ∙ count_split L.disks e (undetermined L e) (determined L e) (λ d l. either (e d) (joined L (without e d) (lower L d) (higher L d)))
    where
      either : (a j : Bool) → bit (a && j) + bit (a && not (a && j)) ≡ bit a
      either true true = refl
      either true false = refl
      either false j = refl
