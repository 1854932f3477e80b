-- What code does for a rotation or a merge, call by call: three nodes are written one after another, or two are written
-- and one is removed, and children get their new parent.
use Rattle.btree_laws.proofs.Common.{◌≡◌, ◌≢◌, ◌<◌, ◌++◌, ◌∷◌, ◌∙◌, ℕ, suc, inl, inr, List, Some, refl, sym, ap, option_map, slice_get, remove, with_parent, NodeMap, View, children_of, items_of, IsRemade, Merges, times_listed, RemovesNode, WritesNode}
use Rattle.btree_laws.specs.SiblingSteps.{Writes}
use Rattle.btree_laws.specs.Step.{Reparents}
use Rattle.btree_laws.proofs.Trees.Numbers.{zero-or}

-- a list of children that does not have a number
none-of : (children : List ℕ) (m : ℕ) → ((n : ℕ) → 0 < times_listed n children → n ≢ m) → times_listed m children ≡ 0
none-of children m away = elim (zero-or (times_listed m children)) [ inl z ↦ z | inr some ↦ absurd (away m some refl) ]

module _ {A : Type 0} (node_at one_look two three new : NodeMap A) (parent left right : ℕ)
    (apart : (left ≢ right) × (left ≢ parent) × (right ≢ parent)) where
  module _ (top low high new_top new_low new_high : View A) (children : List ℕ) (adopter : ℕ)
      (away : (n : ℕ) → 0 < times_listed n children → (n ≢ parent) × (n ≢ left) × (n ≢ right))
      (at_parent : node_at parent ≡ Some top) (at_left : node_at left ≡ Some low) (at_right : node_at right ≡ Some high)
      (reparents : Reparents three new adopter children) where
    not-parent : times_listed parent children ≡ 0
    not-parent = none-of children parent (λ n m. (away n m).0)

    not-left : times_listed left children ≡ 0
    not-left = none-of children left (λ n m. (away n m).1)

    not-right : times_listed right children ≡ 0
    not-right = none-of children right (λ n m. (away n m).2)

    -- the writes of a rotation to the left, one after the other, are that rotation
    pub left-written : WritesNode node_at one_look right new_high → WritesNode one_look two parent new_top → WritesNode two three left new_low
        → Writes node_at new parent left right top low high new_top new_low new_high children adopter
    left-written a b c =
        let still : (n : ℕ) → n ≢ parent → n ≢ left → n ≢ right → three n ≡ node_at n =
        λ n np nl nr. c.others n nl ∙ (b.others n np ∙ a.others n nr) in
        record {
          at_parent = at_parent;
          at_left = at_left;
          at_right = at_right;
          new_parent = reparents.kept parent not-parent ∙ (c.others parent (λ e. apart.1 (sym e)) ∙ b.here);
          new_left = reparents.kept left not-left ∙ c.here;
          new_right = reparents.kept right not-right
              ∙ (c.others right (λ e. apart.0 (sym e)) ∙ (b.others right apart.2 ∙ a.here));
          moved = λ n np nl nr m. reparents.moved n m ∙ ap (option_map (with_parent (Some adopter))) (still n np nl nr);
          kept = λ n np nl nr z. reparents.kept n z ∙ still n np nl nr;
        }

    -- the writes of a rotation to the right, one after the other, are that rotation
    pub right-written : WritesNode node_at one_look left new_low → WritesNode one_look two parent new_top → WritesNode two three right new_high
        → Writes node_at new parent left right top low high new_top new_low new_high children adopter
    right-written a b c =
        let still : (n : ℕ) → n ≢ parent → n ≢ left → n ≢ right → three n ≡ node_at n =
        λ n np nl nr. c.others n nr ∙ (b.others n np ∙ a.others n nl) in
        record {
          at_parent = at_parent;
          at_left = at_left;
          at_right = at_right;
          new_parent = reparents.kept parent not-parent ∙ (c.others parent (λ e. apart.2 (sym e)) ∙ b.here);
          new_left = reparents.kept left not-left ∙ (c.others left apart.0 ∙ (b.others left apart.1 ∙ a.here));
          new_right = reparents.kept right not-right ∙ c.here;
          moved = λ n np nl nr m. reparents.moved n m ∙ ap (option_map (with_parent (Some adopter))) (still n np nl nr);
          kept = λ n np nl nr z. reparents.kept n z ∙ still n np nl nr;
        }

  -- a merge: the parent first, then the right node is removed, then its children get the left one as their parent, and
  -- then the left one is written
  module _ (index : ℕ) (top low high new_top new_low : View A) (down : A)
      (away : (n : ℕ) → 0 < times_listed n (children_of high) → (n ≢ parent) × (n ≢ left) × (n ≢ right))
      (at_parent : node_at parent ≡ Some top) (at_left : node_at left ≡ Some low) (at_right : node_at right ≡ Some high)
      (down_is : slice_get (items_of top) index ≡ Some down)
      (top_is : IsRemade top new_top (remove (items_of top) index)
      (remove (children_of top) (suc index)))
      (low_is : IsRemade low new_low (items_of low ++ down ∷ items_of high) (children_of low ++ children_of high)) where
    -- the writes of a merge, one after the other, are a merge
    pub merge-written : WritesNode node_at one_look parent new_top → RemovesNode one_look two right
        → Reparents two three left (children_of high) → WritesNode three new left new_low → Merges node_at new parent index left right
    merge-written a b reparents c =
        let still : (n : ℕ) → n ≢ parent → n ≢ right → two n ≡ node_at n = λ n np nr. b.others n nr ∙ a.others n np in
        record {
          top = top;
          low = low;
          high = high;
          new_top = new_top;
          new_low = new_low;
          down = down;
          at_parent = at_parent;
          at_left = at_left;
          at_right = at_right;
          down_is = down_is;
          top_is = top_is;
          low_is = low_is;
          new_parent = c.others parent (λ e. apart.1 (sym e))
              ∙ (reparents.kept parent (none-of (children_of high) parent (λ n m. (away n m).0))
              ∙ (b.others parent (λ e. apart.2 (sym e)) ∙ a.here));
          new_left = c.here;
          removed = c.others right (λ e. apart.0 (sym e))
              ∙ (reparents.kept right (none-of (children_of high) right (λ n m. (away n m).2)) ∙ b.here);
          moved = λ n np nl nr m.
              c.others n nl ∙ (reparents.moved n m ∙ ap (option_map (with_parent (Some left))) (still n np nr));
          kept = λ n np nl nr z. c.others n nl ∙ (reparents.kept n z ∙ still n np nr);
        }
