-- The laws for callers as rulesets: `#![tactic(auto, using(btree_slab::specs::Laws::map_laws))]` gives them to each function of a file.
pub use Rattle.btree_find.specs.CallerLaws.{find_laws}
pub use Rattle.btree_ext.specs.CallerLaws.{edit_laws}
use Rattle.btree_map.specs.CallerLaws.{map_laws as pair_laws}
pub use Rattle.btree_set.proofs.SetLaws.{set_laws}
use Rattle.btree_map.proofs.LookUpLaws.{look_up_laws as key_laws}
use Rattle.btree_slab.specs.FoundLaws.{found_laws}
use Rattle.btree_slab.specs.BetweenLaws.{between_laws}
use Rattle.btree_range_set.specs.CallerLaws.{range_laws as set_ranges}
use Rattle.btree_range_set.specs.CountLaws.{count-not}
use Rattle.btree_range_map.specs.CallerLaws.{range_laws as map_ranges}

pub ruleset map_laws = (pair_laws, between_laws)

pub ruleset look_up_laws = (key_laws, found_laws)

pub ruleset range_set_laws = (set_ranges, count-not)

pub ruleset range_map_laws = (map_ranges, count-not)
