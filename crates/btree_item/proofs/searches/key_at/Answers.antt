use Rattle.btree_item.proofs.Common.{rules, Some, ap, sym, ◌∙◌}
use Rattle.btree_item.proofs.StoreLemmas.{is_some-copied}
use Rattle.std.specs.Option.{option_copied, option_map}
use Rattle.std.proofs.lemmas.Option.{slice_get-map}
use Rattle.btree_item.proofs.searches.key_at.Goals as goal

pub get-requires : goal.get-requires
get-requires g c = search rules steps 200000

pub key-requires : goal.key-requires
key-requires g c κs = search rules steps 200000

pub unwrap-requires : goal.unwrap-requires
unwrap-requires g c = is_some-copied c.get.result c.args.slots.now c.args.index c.get.ensures c.requires

pub returns : goal.returns
returns g c =
    slice_get-map g.T.Keyed.key_of c.args.slots.now c.args.index
    ∙ ap (option_map g.T.Keyed.key_of) (sym c.get.ensures ∙ ap option_copied c.unwrap.ensures)
    ∙ ap Some (sym c.key.ensures)
