-- What a tree is once a borrow of one of its nodes ends, and the type of a tree as the logic holds it.
use Rattle.std.specs.Prelude.{ℕ}
use Rattle.std.specs.Borrow.{Fml, Lends, MutBor, RattleType}
use Rattle.btree_store.specs.Content.{Content}
use Rattle.btree_node.specs.declared.node.Node.{Node}
use Rattle.btree_node.specs.contracts.node.Node.{the_row as node_row}
use Rattle.btree_laws.specs.TreeState.{TreeState}
use Rattle.btree_raw.specs.Raw.{with_node}
use Rattle.btree_raw.specs.contracts.raw.RawBTree.{the_row}

-- what a clause has as `C.NodesMut`
abbrev pub StoreMembers : (C K V : Type 0) → Type 1
StoreMembers C K V = record {
  content : C → Content (Node K V);
  refusals : C → ℕ;
  CanHold : Content (Node K V) → Type 0;
  MayRefuse : Content (Node K V) → Type 0;
  Fits : Type 0;
  written : C → ℕ → Node K V → C;
}

-- the type of a tree
abbrev pub raw_row : (K V C O : RattleType) → StoreMembers C.Denot K.Denot V.Denot → RattleType
raw_row K V C O s =
    the_row K V C O
    (record { MayRefuse = s.MayRefuse; Fits = s.Fits; written = s.written })
    (record { content = s.content; refusals = s.refusals; CanHold = s.CanHold })

-- the last node behind the borrow is the one with this number, and nothing else has changed
abbrev pub lends_node : (K V C O : RattleType) → StoreMembers C.Denot K.Denot V.Denot → MutBor (TreeState K.Denot V.Denot) → ℕ → MutBor (Node K.Denot V.Denot) → Fml
lends_node K V C O s tree id node = Lends (raw_row K V C O s) (node_row K V) tree node (with_node tree.now id)
