-- The only item of a tree without nodes.
use Rattle.btree_raw.proofs.Common.{◌≡◌, ◌+◌, ℕ, inl, [], ◌∷◌, Option, Some, None, sym, ap, subst, ◌∙◌, ◌<◌, option_map, arith, Store, Ordering, Content, get-insert_other, Address, Node, view_of, leaf, item_in, IsPlace, IsWithin, one, WritesNode, TreeState, Changes, node_map, pairs_of, IsWellFormed, len-views, need, EMPTY, InsertsExactly, IsRefused, Refuses}
use Rattle.std.specs.FinMap as map
use Rattle.std.specs.Ordering.{nat_cmp}
use Rattle.btree_laws.proofs.Splits.Insertion.{first-well}
use Rattle.btree_laws.proofs.Trees.OneLeaf.{IsOneLeaf, once_here, only-place}
use Rattle.btree_laws.proofs.Trees.States.{is-tree-but-length, pairs-tree}
use Rattle.btree_raw.proofs.StateLemmas.{nodes-of, same-len, same-kept}
use Rattle.btree_raw.specs.Insertion.{UsesNeeded}
use Rattle.btree_raw.specs.Limit.{IsBelowLimit}

pub len-of : {K V : Type 0} {a b : TreeState K V} → a ≡ b → a.len ≡ b.len
len-of {K} {V} e = ap (λ (s : TreeState K V). s.len) e

-- the one node was refused
pub only-refused : {K V : Type 0} (MayRefuse : Content (Node K V) → Type 0) (old new : TreeState K V) (id : ℕ) → old.root ≡ None
    → Refuses old new → MayRefuse old.nodes → old.len < old.kept.limit → IsRefused MayRefuse id old new Store
only-refused MayRefuse old new id rootless refuses may room =
    let one : need (node_map old) old.root (map.len old.nodes) id ≡ 1 = ap (λ t. need (node_map old) t (map.len old.nodes) id) rootless in
    (refuses, record { ids = []; fewer = rw one (omega arith); claims = tt; may = may }, room)

module _ {K V : Type 0} (old mid put : TreeState K V) (root : ℕ) (node : Node K V) (x : K × V) (claimed : mid ≡ record old { nodes = map.insert old.nodes root EMPTY })
    (changes : Changes (λ p q. WritesNode p q root (view_of node)) mid put) (is : view_of node ≡ leaf None (x ∷ [])) where
  -- a leaf that was claimed where no node was is the only node
  pub only-leaf : ((n : ℕ) → node_map old n ≡ None) → IsOneLeaf (node_map put) root (x ∷ [])
  only-leaf none = record {
    here = changes.nodes.here ∙ ap Some is;
    alone = λ n differs.
        changes.nodes.others n differs
        ∙ (ap (option_map view_of) (ap (λ m. map.get m n) (nodes-of claimed) ∙ get-insert_other old.nodes root EMPTY n differs) ∙ none n);
  }

module _ {K V : Type 0} (cmp : K → K → Ordering) (old mid put : TreeState K V) (root : ℕ) (rootless : old.root ≡ None) (empty : map.len old.nodes ≡ 0)
    (node : Node K V) (x : K × V) (claimed : mid ≡ record old { nodes = map.insert old.nodes root EMPTY }) (changes : Changes (λ p q. WritesNode p q root (view_of node)) mid put)
    (is : view_of node ≡ leaf None (x ∷ [])) (a b : Address) (child : Option ℕ) (b_is : b ≡ record { id = root; offset = Some 0 }) where
  -- the root and the length are set at the end
  abbrev new : TreeState K V
  new = record put { root = Some root; len = put.len + 1 }

  no-nodes : (n : ℕ) → node_map old n ≡ None
  no-nodes n = ap (λ (m : Content (Node K V)). option_map view_of (map.get m n)) (map.empty_of_len old.nodes empty) ∙ ap (option_map view_of) (map.get-empty nat_cmp n)

  one-leaf : IsOneLeaf (node_map new) root (x ∷ [])
  one-leaf = only-leaf old mid put root node x claimed changes is no-nodes

  first : IsWellFormed cmp (node_map new) (Some root) 1 (x ∷ [])
  first = first-well cmp (node_map new) root x one-leaf.here one-leaf.alone

  pairs-new : pairs_of new ≡ x ∷ []
  pairs-new = pairs-tree cmp new 1 (x ∷ []) first

  used-one-node : UsesNeeded old new a.id
  used-one-node =
      let one : need (node_map old) old.root (map.len old.nodes) a.id ≡ 1 = ap (λ t. need (node_map old) t (map.len old.nodes) a.id) rootless in
      let count : map.len new.nodes ≡ 1 = len-views new.nodes (root ∷ []) (λ n. once_here (node_map new) root (x ∷ []) n one-leaf) in
      record {
        full = λ full. let f = full.here in let none = no-nodes a.id in absurd (cc);
        first = λ none. omega arith;
        room = λ some not_full. absurd (some rootless);
      }

  pub only-inserted : IsBelowLimit old → InsertsExactly cmp old new a b x child
  only-inserted below_limit =
      let mid_len : mid.len ≡ old.len = ap (λ (s : TreeState K V). s.len) claimed in
      record {
        below_limit = below_limit;
        tree = is-tree-but-length cmp new (x ∷ []) first;
        valid = rw b_is (inl (subst (λ v. IsWithin (node_map new) v (Some 0)) (sym one-leaf.here) (omega arith)));
        item = rw b_is (ap (λ v. item_in v 0) one-leaf.here);
        longer = ap (λ n. n + 1) (same-len changes.rest ∙ mid_len);
        uncounted = same-kept changes.rest ∙ ap (λ (s : TreeState K V). s.kept) claimed;
        nodes = used-one-node;
        put = λ some. absurd (some rootless);
        first = λ none. record {
          pairs = pairs-new;
          place = subst (λ (c : Address). IsPlace (node_map new) (Some root) (pairs_of new) c.id c.offset 0) (sym b_is)
              (subst (λ l. IsPlace (node_map new) (Some root) l root (Some 0) 0) (sym pairs-new) (only-place (node_map new) root x one-leaf));
          nodes = len-views new.nodes (root ∷ []) (λ n. once_here (node_map new) root (x ∷ []) n one-leaf);
        };
      }
