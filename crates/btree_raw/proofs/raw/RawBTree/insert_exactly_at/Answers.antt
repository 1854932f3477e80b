use Rattle.btree_raw.proofs.Common.{◌∙◌, sym, arith, rules, common_steps}
use Rattle.btree_raw.proofs.raw.RawBTree.insert_exactly_at.Goals as goal

pub tell_fits-requires : goal.tell_fits-requires
tell_fits-requires g c κs =
    search rules steps 200000

pub len-requires : goal.len-requires
len-requires g c κs =
    search rules steps 200000

pub refused-requires : goal.refused-requires
refused-requires g c κs =
    search rules steps 200000

pub returns-then-limit-len-clause-inserted : goal.returns-then-limit-len-clause-inserted
returns-then-limit-len-clause-inserted g c =
    search rules steps 200000

pub returns-then-limit-len-clause-returned : goal.returns-then-limit-len-clause-returned
returns-then-limit-len-clause-returned g c =
    grind (arith, common_steps) steps 300000

pub returns-then-limit-len-clause-refused : goal.returns-then-limit-len-clause-refused
returns-then-limit-len-clause-refused g c =
    grind (arith, common_steps) steps 300000

pub root_id-requires : goal.root_id-requires
root_id-requires g c κs =
    search rules steps 200000

pub insert_only-requires-clause-rootless : goal.insert_only-requires-clause-rootless
insert_only-requires-clause-rootless g c =
    sym c.root_id.ensures ∙ c.in-None.is

pub insert_only-requires-clause-empty : goal.insert_only-requires-clause-empty
insert_only-requires-clause-empty g c =
    (c.requires.vacant (sym c.root_id.ensures ∙ c.in-None.is)).empty

pub insert_only-requires-clause-room : goal.insert_only-requires-clause-room
insert_only-requires-clause-room g c =
    grind (arith, common_steps) steps 300000

pub insert_in_tree-requires-clause-off_by_one : goal.insert_in_tree-requires-clause-off_by_one
insert_in_tree-requires-clause-off_by_one g c =
    c.requires.off_by_one (λ none. let e = sym c.in-Some.is ∙ (c.root_id.ensures ∙ none) in absurd (cc))

pub insert_in_tree-requires-clause-rooted : goal.insert_in_tree-requires-clause-rooted
insert_in_tree-requires-clause-rooted g c =
    λ none. let e = sym c.in-Some.is ∙ (c.root_id.ensures ∙ none) in absurd (cc)

pub insert_in_tree-requires-clause-room : goal.insert_in_tree-requires-clause-room
insert_in_tree-requires-clause-room g c =
    grind (arith, common_steps) steps 300000

pub returns-in-None-clause-inserted : goal.returns-in-None-clause-inserted
returns-in-None-clause-inserted g c =
    search rules steps 200000

pub returns-in-None-clause-returned : goal.returns-in-None-clause-returned
returns-in-None-clause-returned g c =
    search rules steps 200000

pub returns-in-None-clause-refused : goal.returns-in-None-clause-refused
returns-in-None-clause-refused g c =
    search rules steps 200000

pub returns-in-Some-clause-inserted : goal.returns-in-Some-clause-inserted
returns-in-Some-clause-inserted g c =
    search rules steps 200000

pub returns-in-Some-clause-returned : goal.returns-in-Some-clause-returned
returns-in-Some-clause-returned g c =
    search rules steps 200000

pub returns-in-Some-clause-refused : goal.returns-in-Some-clause-refused
returns-in-Some-clause-refused g c =
    search rules steps 200000
