-- What `validate` and `validate_node` answer on a well formed tree.
-- `validate` answers Ok on every tree that `AreBTree` holds of. `validate_node` compares a node with a parent and two
-- separators that the caller gives, so it answers Ok if they suit the node (`SuitsNode`), with the node's depth, and else
-- a fault of these arguments (`BlamesIfErr`).
use Rattle.std.specs.Prelude.{◌≡◌, ⊤, ℕ, ◌^◌, ◌<◌, ◌≤◌, IsFalse, List, IfOk, IfErr, IfSome, Option, Some, None, option_copied, Result, Ok}
use Rattle.std.specs.Borrow.{Bor}
use Rattle.std.specs.FinMap as map
use Rattle.std.specs.List.{AllByRecursion}
use Rattle.std.specs.declared.cmp.Ordering.{Ordering}
use Rattle.std.specs.declared.cmp.Ordering.TheVariants.{Less}
use Rattle.btree_item.specs.declared.TheConstants.{MIN_ITEMS}
use Rattle.btree_item.specs.declared.fault.Fault.{Fault}
use Rattle.btree_item.specs.declared.fault.Fault.TheVariants.{NoNode, WrongParent, Overflowing, Underflowing, EmptyRoot, Unsorted, BelowSeparator, AboveSeparator, TooDeep, NotBalanced, WrongLength, Unreachable, OverLimit}
use Rattle.btree_node.specs.declared.node.Node.{Node}
use Rattle.btree_store.specs.Content.{Content}
use Rattle.btree_view.specs.Checks.{is_judged_as_root}
use Rattle.btree_view.specs.View.{View, parent_of, size_of}
use Rattle.btree_laws.specs.Focus.Search.{levels_below}
use Rattle.btree_laws.specs.Represents.{represented}
use Rattle.btree_laws.specs.TreeState.{TreeState, IsBTree, node_map, unlimited}
use Rattle.btree_valid.specs.Positions.{start_spot}
use Rattle.btree_valid.specs.Verdicts.{IsVerdict, IsVerdictBelow}

-- the keys are between the separators, where these are given
pub record AreBetween {K V : Type 0} (cmp : K → K → Ordering) (min max : Option K) (xs : List (K × V)) : Type 0 where
  pub above : IfSome min (λ m. AllByRecursion (λ x. cmp m x.0 ≡ Less) xs)
  pub below : IfSome max (λ m. AllByRecursion (λ x. cmp x.0 m ≡ Less) xs)

-- the nodes are exactly one well formed tree with this root and this length
abbrev pub AreBTree : {K V : Type 0} → (cmp : K → K → Ordering) → Content (Node K V) → (root : Option ℕ) → (len : ℕ) → Type 0
AreBTree cmp nodes root len = IsBTree cmp (record { nodes = nodes; root = root; len = len; kept = unlimited 0 })

-- how many levels are below a node
abbrev pub depth_below : {K V : Type 0} → TreeState K V → ℕ → ℕ
depth_below s id = levels_below (node_map s) (map.len s.nodes) id

module _ {K V : Type 0} (cmp : K → K → Ordering) where
  -- a node has this parent, at least three items unless it is judged as the root, and only keys between the separators
  -- under it
  pub record SuitsNode (s : TreeState K V) (id : ℕ) (parent : Option ℕ) (min max : Option K) : Type 0 where
    pub node : View (K × V)
    pub at : node_map s id ≡ Some node
    pub parent_is : parent_of node ≡ parent
    pub filled : IsFalse (is_judged_as_root min max) → MIN_ITEMS ≤ size_of node
    pub between : AreBetween cmp min max (represented (node_map s) (map.len s.nodes) id)

  -- the answer is Ok with the depth of the node if the arguments suit it; references lead to the separators
  abbrev pub AcceptsNode : (s : TreeState K V) (id : ℕ) (parent : Option ℕ) (min max : Option (Bor K)) → Result ℕ Fault → Type 0
  AcceptsNode s id parent min max answer = SuitsNode s id parent (option_copied min) (option_copied max) → answer ≡ Ok (depth_below s id)

  -- so it is in a well formed tree
  abbrev pub AcceptsRawNode : (s : TreeState K V) (id : ℕ) (parent : Option ℕ) (min max : Option (Bor K)) → Result ℕ Fault → Type 0
  AcceptsRawNode s id parent min max answer = IsBTree cmp s → AcceptsNode s id parent min max answer

  -- and in every well formed tree of these nodes
  abbrev pub AcceptsAmong : Content (Node K V) → (id : ℕ) (parent : Option ℕ) (min max : Option (Bor K)) → Result ℕ Fault → Type 0
  AcceptsAmong nodes id parent min max answer = (s : TreeState K V) → s.nodes ≡ nodes → s.len < 2 ^ 64 → AcceptsRawNode s id parent min max answer

  -- the answer is Ok only for arguments that suit the node
  abbrev pub SuitsIfOk : (s : TreeState K V) (id : ℕ) (parent : Option ℕ) (min max : Option (Bor K)) → Result ℕ Fault → Type 0
  SuitsIfOk s id parent min max answer = IfOk answer (λ depth. SuitsNode s id parent (option_copied min) (option_copied max))

  -- so it is in a well formed tree, and in every one of these nodes
  abbrev pub SuitsRawNode : (s : TreeState K V) (id : ℕ) (parent : Option ℕ) (min max : Option (Bor K)) → Result ℕ Fault → Type 0
  SuitsRawNode s id parent min max answer = IsBTree cmp s → SuitsIfOk s id parent min max answer

  abbrev pub SuitsAmong : Content (Node K V) → (id : ℕ) (parent : Option ℕ) (min max : Option (Bor K)) → Result ℕ Fault → Type 0
  SuitsAmong nodes id parent min max answer = (s : TreeState K V) → s.nodes ≡ nodes → SuitsRawNode s id parent min max answer

  -- what the check of a fault asks of the arguments, for a node with this parent and so many items, and the pairs under it
  abbrev pub Allows : (own : Option ℕ) (count : ℕ) (xs : List (K × V)) (parent : Option ℕ) (min max : Option K) → Fault → Type 0
  Allows own count xs parent min max WrongParent = own ≡ parent
  Allows own count xs parent min max Underflowing = IsFalse (is_judged_as_root min max) → MIN_ITEMS ≤ count
  Allows own count xs parent min max BelowSeparator = AreBetween cmp min None xs
  Allows own count xs parent min max AboveSeparator = AreBetween cmp None max xs
  Allows own count xs parent min max NoNode = ⊤
  Allows own count xs parent min max Overflowing = ⊤
  Allows own count xs parent min max EmptyRoot = ⊤
  Allows own count xs parent min max Unsorted = ⊤
  Allows own count xs parent min max TooDeep = ⊤
  Allows own count xs parent min max NotBalanced = ⊤
  Allows own count xs parent min max WrongLength = ⊤
  Allows own count xs parent min max Unreachable = ⊤
  Allows own count xs parent min max OverLimit = ⊤

  -- an answered fault is one whose check the arguments do not pass: none but the first four above
  abbrev pub BlamesIfErr : (s : TreeState K V) (id : ℕ) (parent : Option ℕ) (min max : Option (Bor K)) → Result ℕ Fault → Type 0
  BlamesIfErr s id parent min max answer = IfErr answer (λ fault. (node : View (K × V)) → node_map s id ≡ Some node
      → Allows (parent_of node) (size_of node) (represented (node_map s) (map.len s.nodes) id) parent (option_copied min) (option_copied max) fault → ⊥)

  -- so it is in a well formed tree, and in every one of these nodes
  abbrev pub BlamesRawNode : (s : TreeState K V) (id : ℕ) (parent : Option ℕ) (min max : Option (Bor K)) → Result ℕ Fault → Type 0
  BlamesRawNode s id parent min max answer = IsBTree cmp s → BlamesIfErr s id parent min max answer

  abbrev pub BlamesAmong : Content (Node K V) → (id : ℕ) (parent : Option ℕ) (min max : Option (Bor K)) → Result ℕ Fault → Type 0
  BlamesAmong nodes id parent min max answer = (s : TreeState K V) → s.nodes ≡ nodes → s.len < 2 ^ 64 → BlamesRawNode s id parent min max answer

-- the result of `validate` on a raw tree
abbrev pub IsRawVerdict : {K V : Type 0} → (cmp : K → K → Ordering) → TreeState K V → Result ⊤ Fault → Type 0
IsRawVerdict cmp s answer = IsVerdict cmp s.nodes s.root s.len s.kept.limit answer

-- the result of `validate_node`, where references lead to the separators
abbrev pub IsVerdictFor : {K V : Type 0} → (cmp : K → K → Ordering) → Content (Node K V) → (id : ℕ) (parent : Option ℕ) (min max : Option (Bor K)) → Result ℕ Fault → Type 0
IsVerdictFor cmp nodes id parent min max answer = IsVerdictBelow cmp nodes (start_spot id parent (option_copied min) (option_copied max)) answer
