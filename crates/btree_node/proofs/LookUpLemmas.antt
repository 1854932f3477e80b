-- What a look-up in a node returns, by what is found and by the child that may hold the key.
use Rattle.btree_node.proofs.Common.{◌≡◌, ℕ, Option, Some, None, Ok, Err, refl, sym, ap, View, items_of}
use Rattle.std.proofs.Common.{Result, Ordering}
use Rattle.std.specs.Result.{result_map_both}
use Rattle.btree_item.specs.Pairs.{found_value}
use Rattle.btree_view.specs.LookUp.{looked_up, look_up, found_or, child_for, find_in}

-- the result of `find_mut` as that of `get_mut`
abbrev pub as_looked_up : {V : Type 0} → Result V (Option ℕ) → Result (Option V) ℕ
as_looked_up (Ok v) = Ok (Some v)
as_looked_up (Err None) = Ok None
as_looked_up (Err (Some id)) = Err id

-- a leaf has no child to search in
pub looked_up-leaf : {V : Type 0} (value : Option V) → looked_up value None ≡ Ok value
looked_up-leaf None = refl
looked_up-leaf (Some v) = refl

pub looked_up-found_or : {V : Type 0} (value : Option V) (child : Option ℕ) (r : Result V (Option ℕ)) → r ≡ found_or value child → looked_up value child ≡ as_looked_up r
looked_up-found_or (Some v) child r is = ap as_looked_up (sym is)
looked_up-found_or None None r is = ap as_looked_up (sym is)
looked_up-found_or None (Some id) r is = ap as_looked_up (sym is)

pub found_or-looked_up : {V : Type 0} (value : Option V) (child : Option ℕ) (r : Result V ℕ) → result_map_both Some (λ id. id) r ≡ looked_up value child → result_map_both (λ v. v) Some r ≡ found_or value child
found_or-looked_up (Some v) child (Ok w) is = cc
found_or-looked_up (Some v) child (Err id) is = absurd (cc)
found_or-looked_up None None (Ok w) is = absurd (cc)
found_or-looked_up None None (Err id) is = absurd (cc)
found_or-looked_up None (Some id) (Ok w) is = absurd (cc)
found_or-looked_up None (Some id) (Err n) is = cc

module _ {K V : Type 0} (cmp : K → K → Ordering) (k : K) (node : View (K × V)) where
  pub look_up-from_find : (r : Result V (Option ℕ)) → r ≡ find_in cmp k node → as_looked_up r ≡ look_up cmp k node
  unfolding find_in
  look_up-from_find r is = sym (looked_up-found_or (found_value cmp k (items_of node)) (child_for cmp k node) r is)

  pub find_in-from_look_up : (r : Result V ℕ) → result_map_both Some (λ id. id) r ≡ look_up cmp k node → result_map_both (λ v. v) Some r ≡ find_in cmp k node
  unfolding find_in
  find_in-from_look_up r is = found_or-looked_up (found_value cmp k (items_of node)) (child_for cmp k node) r is

  -- in a node without children
  pub find_in-from_found : (o : Option V) → o ≡ found_value cmp k (items_of node) → child_for cmp k node ≡ None → found_or o None ≡ find_in cmp k node
  unfolding find_in
  find_in-from_found None is none = rw (← is, none) refl
  find_in-from_found (Some v) is none = rw (← is) refl
