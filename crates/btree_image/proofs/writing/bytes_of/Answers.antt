use Rattle.std.proofs.Common.{◌≡◌, Ok, List, ℕ, ◌++◌, ◌∙◌, ◌<◌, ◌^◌, ap, subst, sym, arith}
use Rattle.std.specs.List.{flat_map}
use Rattle.btree_laws.specs.TreeState.{node_map}
use Rattle.btree_image.specs.Image.{check_sum, place, spelling, word}
use Rattle.btree_spelled.specs.Pairs.{pair_bytes}
use Rattle.btree_image.specs.Reading.{image_at}
use Rattle.btree_image.specs.Saved.{AreOnlyBytesOf, IsSavedAs}
use Rattle.btree_image.specs.Written.{head_bytes, places_of}
use Rattle.btree_image.proofs.OneSpelling.{one-spelling}
use Rattle.btree_image.proofs.Whole.{tree-of, tree-read, tree-sized, tree-text, tree_image}
use Rattle.btree_image.proofs.writing.bytes_of.Given.{Over}
use Rattle.btree_image.proofs.writing.bytes_of.Goals as goal

pub put_places-requires : goal.put_places-requires
put_places-requires g c = record { sized = tree-sized g.K.Ord.cmp c.args.tree.now c.requires }

-- the bytes are read as the tree, and no others are
both : (g : Over) (c : goal.In_ok-put_word g) → IsSavedAs g.K.Spelled.read g.V.Spelled.read c.args.tree.now c.put_word.new.out.items × AreOnlyBytesOf g.K.Spelled.read g.V.Spelled.read c.args.tree.now c.put_word.new.out.items
both g c =
    let words = c.in_ok-put_head.ensures.words in
    let tree = c.args.tree.now in
    let count = c.count_places-count.result in
    let body = c.put_places.new.out.items in
    let spell = pair_bytes g.K.Spelled.spelling g.V.Spelled.spelling in
    let image = tree_image g.K.Ord.cmp tree c.requires g.K.Spelled.spelling g.V.Spelled.spelling g.K.Spelled.read g.V.Spelled.read count in
    let head : c.put_head.new.out.items ≡ head_bytes tree count = rw c.new-out.ensures.items at c.in_ok-put_head.ensures.appends in
    let is : body ≡ head_bytes tree count ++ flat_map (place spell) (places_of (node_map tree) count) = rw head at c.in_ok-put_places.ensures.appends in
    let sum : c.check_sum_of-sum.result ≡ check_sum body = c.check_sum_of-sum.ensures ∙ ap check_sum c.deref.ensures.value in
    let low : check_sum body < 2 ^ 64 = rw (← sum) (omega (arith, c.check_sum_of-sum.type_inv)) in
    let written : c.put_word.new.out.items ≡ body ++ word (check_sum body) = rw sum at c.in_ok-put_word.ensures.appends in
    let spelled : body ++ word (check_sum body) ≡ spelling spell image = ap (λ (t : List ℕ). t ++ word (check_sum t)) (tree-text g.K.Ord.cmp tree c.requires g.K.Spelled.spelling g.V.Spelled.spelling g.K.Spelled.read g.V.Spelled.read count body is) in
    let text : c.put_word.new.out.items ≡ spelling spell image = written ∙ spelled in
    let of = tree-of g.K.Ord.cmp tree c.requires g.K.Spelled.spelling g.V.Spelled.spelling g.K.Spelled.read g.V.Spelled.read count c.count_places-count.ensures in
    let read : image_at g.K.Spelled.read g.V.Spelled.read (spelling spell image) ≡ Ok image = rw (← spelled)
    (tree-read g.K.Ord.cmp tree c.requires g.K.Spelled.spelling g.V.Spelled.spelling g.K.Spelled.read g.V.Spelled.read count c.count_places-count.ensures
    (omega (arith, c.count_places-count.type_inv)) words.len words.limit c.in_ok-put_places.ensures.are_read body is low) in (
      subst (IsSavedAs g.K.Spelled.read g.V.Spelled.read tree) (sym text) (record { image = image; read = read; of = of }),
      subst (AreOnlyBytesOf g.K.Spelled.read g.V.Spelled.read tree) (sym text)
          (one-spelling g.K.Spelled.read g.V.Spelled.read g.K.Spelled.spelling g.V.Spelled.spelling g.met.K.Spelled.takes g.met.V.Spelled.takes tree image read of),
    )

pub returns-clause-saved : goal.returns-clause-saved
returns-clause-saved g c = (both g c).0

pub returns-clause-only : goal.returns-clause-only
returns-clause-only g c = (both g c).1
