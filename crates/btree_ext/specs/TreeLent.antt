-- What a tree is once a borrow of a value ends, and the type of a tree as the logic holds it.
use Rattle.std.specs.Prelude.{Option}
use Rattle.std.specs.BTreeMap.Lent.{OrdMembers}
use Rattle.std.specs.Borrow.{Fml, LendsIf, MutBor, RattleType}
use Rattle.std.specs.declared.cmp.Ordering.{Ordering}
use Rattle.btree_laws.specs.TreeState.{TreeState}
use Rattle.btree_raw.specs.Lent.{StoreMembers}
use Rattle.btree_ext.specs.KeyWritten.{key_written}
use Rattle.btree_ext.specs.contracts.tree.Tree.{the_row}

-- the type of a tree that is always well formed
abbrev pub tree_row : (K V C O : RattleType) → OrdMembers K.Denot → StoreMembers C.Denot K.Denot V.Denot → RattleType
tree_row K V C O g s =
    the_row K V C O
    (record { cmp = g.cmp })
    (record { eq = g.eq })
    (record { partial_cmp = g.partial_cmp })
    (record { MayRefuse = s.MayRefuse; Fits = s.Fits; written = s.written })
    (record { content = s.content; refusals = s.refusals; CanHold = s.CanHold })

-- the last value behind the borrow is the one at the key; without one nothing has changed
abbrev pub lends_at_key : (K V C O : RattleType) → OrdMembers K.Denot → StoreMembers C.Denot K.Denot V.Denot
    → MutBor (TreeState K.Denot V.Denot) → K.Denot → Option (MutBor V.Denot) → Fml
lends_at_key K V C O g s tree k value = LendsIf (tree_row K V C O g s) V tree value (key_written g.cmp k tree.now) tree.now

-- so it is at the key that a query is equal to
abbrev pub lends_by : (K V C O : RattleType) → {Q : Type 0} → OrdMembers K.Denot → StoreMembers C.Denot K.Denot V.Denot
    → MutBor (TreeState K.Denot V.Denot) → (K.Denot → Q → Ordering) → Q → Option (MutBor V.Denot) → Fml
lends_by K V C O g s tree compare query value = LendsIf (tree_row K V C O g s) V tree value (key_written compare query tree.now) tree.now
