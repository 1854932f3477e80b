use Rattle.std.proofs.Common.{◌∙◌, ap, sym}
use Rattle.std.proofs.lemmas.Bool.{false≢true}
use Rattle.std.specs.Prelude.{option_map}
use Rattle.std.specs.FinMap as map
use Rattle.btree_node.specs.Node.{view_of}
use Rattle.btree_laws.specs.TreeState.{node_map}
use Rattle.btree_view.specs.Edits.{is_internal}
use Rattle.btree_image.specs.Written.{IsPlaceRead}
use Rattle.btree_image.proofs.NodeLemmas.{not-used}
use Rattle.btree_image.proofs.Put.{on_ok}
use Rattle.btree_image.proofs.Whole.{vacant-read}
use Rattle.btree_image.proofs.writing.put_place.Goals as goal

pub put_leaf-requires : goal.put_leaf-requires
put_leaf-requires g c =
    let is = ap (option_map view_of) c.node-node.ensures.value in
    (c.tell_fits.ensures, (ap (λ n. is_internal (view_of n)) c.in-Leaf.is, c.requires.sized c.args.id (view_of c.node-node.result.now) is))

pub put_internal-requires : goal.put_internal-requires
put_internal-requires g c =
    let is = ap (option_map view_of) c.node-node.ensures.value in
    (c.tell_fits.ensures, (ap (λ n. is_internal (view_of n)) c.in-Internal.is, c.requires.sized c.args.id (view_of c.node-node.result.now) is))

pub node-node-requires : goal.node-node-requires
node-node-requires g c = (c.tell_fits.ensures, c.has_node.ensures.0 c.if-not-has_node.false)

pub returns-in-Leaf-clause-appends : goal.returns-in-Leaf-clause-appends
returns-in-Leaf-clause-appends g c = rw c.node-node.ensures.value c.put_leaf.ensures.appends

pub returns-in-Leaf-clause-is_read : goal.returns-in-Leaf-clause-is_read
returns-in-Leaf-clause-is_read g c = rw c.node-node.ensures.value c.put_leaf.ensures.is_read

pub returns-in-Internal-clause-appends : goal.returns-in-Internal-clause-appends
returns-in-Internal-clause-appends g c = rw c.node-node.ensures.value c.put_internal.ensures.appends

pub returns-in-Internal-clause-is_read : goal.returns-in-Internal-clause-is_read
returns-in-Internal-clause-is_read g c = rw c.node-node.ensures.value c.put_internal.ensures.is_read

pub returns-then-not-has_node-clause-appends : goal.returns-then-not-has_node-clause-appends
returns-then-not-has_node-clause-appends g c =
    let none = not-used view_of (map.get c.args.tree.now.nodes c.args.id) (λ used. false≢true (sym c.if-not-has_node.true ∙ c.has_node.ensures.1 used)) in
    rw none c.put_word.ensures.appends

pub returns-then-not-has_node-clause-is_read : goal.returns-then-not-has_node-clause-is_read
returns-then-not-has_node-clause-is_read g c =
    let none = not-used view_of (map.get c.args.tree.now.nodes c.args.id) (λ used. false≢true (sym c.if-not-has_node.true ∙ c.has_node.ensures.1 used)) in
    let read : IsPlaceRead g.K.Spelled.spelling g.V.Spelled.spelling g.K.Spelled.read g.V.Spelled.read (node_map c.args.tree.now c.args.id) = rw none (vacant-read g.K.Spelled.spelling g.V.Spelled.spelling g.K.Spelled.read g.V.Spelled.read) in
    on_ok c.put_word.result read
