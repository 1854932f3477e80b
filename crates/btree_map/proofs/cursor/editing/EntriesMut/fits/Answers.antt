use Rattle.btree_map.proofs.Common.{item_addresses_of, entry_front, index-within}
use Rattle.btree_map.proofs.EditingLemmas.{at-fits, fits-at}
use Rattle.btree_map.proofs.cursor.editing.EntriesMut.fits.Goals as goal

pub returns : goal.returns
returns g c =
    let now = c.args.self.now in (
      λ fits. at-fits now.map.now c.args.key.now c.gap.result (entry_front now) c.gap.ensures.has (index-within (item_addresses_of now.map.now) now.first) (c.fits_at.ensures.0 fits),
      λ between. c.fits_at.ensures.1
          (fits-at now.map.now c.args.key.now c.gap.result (entry_front now) c.gap.ensures.has (index-within (item_addresses_of now.map.now) now.first) between),
    )
