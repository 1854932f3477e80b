use Rattle.btree_range_map.proofs.Common.{◌≡◌, ◌∙◌, ℕ, sym, ap, same_Some, Span}
use Rattle.btree_range_map.proofs.KeptLemmas.{key-exchanged}
use Rattle.btree_range_map.proofs.PutLemmas.{put-done, put-fits, trimmed-back, trimmed-can, trimmed-done, trimmed-item, trimmed-keeps, trimmed-refused}
use Rattle.btree_range_map.proofs.TrimLemmas.{trim-apart, trim-fits}
use Rattle.btree_range_map.proofs.assign.put_before.Goals as goal

pub replace_key_at-first-requires : goal.replace_key_at-first-requires
replace_key_at-first-requires g c =
    let can = c.requires.can in
    let over = c.requires.next can.here.place can.here.has in
    let rest = over.0 in
    let o = over.1 in
    trim-fits c.args.map.now can.here.place c.args.span rest c.args.next o can.runs

pub insert_at-requires-clause-fits : goal.insert_at-requires-clause-fits
insert_at-requires-clause-fits g c =
    let can = c.requires.can in
    let over = c.requires.next can.here.place can.here.has in
    let rest = over.0 in
    let o = over.1 in
    let is = key-exchanged c.args.map.now c.replace_key_at-first.new.self c.args.next _ _ _ rest (o.item.item ∙ o.listed) c.replace_key_at-first.ensures in
    let mid = c.replace_key_at-first.new.self in
    rw c.new.ensures
    (put-fits mid c.args.at c.args.start c.args.span (trimmed-can c.args.map.now c.args.at c.args.start c.args.span can c.args.next rest o mid is)
    (trim-apart c.args.map.now can.here.place c.args.span rest c.args.next o can.runs mid is))

pub replace_key_at-requires : goal.replace_key_at-requires
replace_key_at-requires g c =
    let can = c.requires.can in
    let over = c.requires.next can.here.place can.here.has in
    let rest = over.0 in
    let o = over.1 in
    let is = key-exchanged c.args.map.now c.replace_key_at-first.new.self c.args.next _ _ _ rest (o.item.item ∙ o.listed) c.replace_key_at-first.ensures in
    let had = c.replace_key_at-first.ensures.had in
    let first : c.replace_key_at-first.result ≡ o.first = ap (λ (z : ℕ × Span _). z.0) (same_Some _ _ (sym had ∙ o.item.item ∙ o.listed)) in
    rw first (trimmed-back c.args.map.now c.args.at c.args.start c.args.span can c.args.next rest o c.replace_key_at-first.new.self is c.insert_at.new.self _ _ c.in-Err.ensures.refused)

pub returns-in-Ok-clause-assigned : goal.returns-in-Ok-clause-assigned
returns-in-Ok-clause-assigned g c =
    let can = c.requires.can in
    let over = c.requires.next can.here.place can.here.has in
    let rest = over.0 in
    let o = over.1 in
    let is = key-exchanged c.args.map.now c.replace_key_at-first.new.self c.args.next _ _ _ rest (o.item.item ∙ o.listed) c.replace_key_at-first.ensures in
    let mid = c.replace_key_at-first.new.self in
    trimmed-done c.args.map.now c.args.at c.args.start c.args.span can c.args.next rest o mid is c.insert_at.new.self
    (put-done mid c.args.at c.args.start c.args.span (trimmed-can c.args.map.now c.args.at c.args.start c.args.span can c.args.next rest o mid is)
    (trim-apart c.args.map.now can.here.place c.args.span rest c.args.next o can.runs mid is) c.insert_at.new.self c.in-Ok._at (rw c.new.ensures at c.in-Ok.ensures.inserted))

pub returns-in-Err-clause-stays : goal.returns-in-Err-clause-stays
returns-in-Err-clause-stays g c =
    let can = c.requires.can in
    let over = c.requires.next can.here.place can.here.has in
    let rest = over.0 in
    let o = over.1 in
    let is = key-exchanged c.args.map.now c.replace_key_at-first.new.self c.args.next _ _ _ rest (o.item.item ∙ o.listed) c.replace_key_at-first.ensures in
    let had = c.replace_key_at-first.ensures.had in
    let first : c.replace_key_at-first.result ≡ o.first = ap (λ (z : ℕ × Span _). z.0) (same_Some _ _ (sym had ∙ o.item.item ∙ o.listed)) in
    trimmed-keeps c.args.map.now c.args.at c.args.start c.args.span can c.args.next rest o c.replace_key_at-first.new.self is c.insert_at.new.self _ _ c.in-Err.ensures.refused
    c.replace_key_at.new.self
    (rw first at
    (key-exchanged c.insert_at.new.self c.replace_key_at.new.self c.args.next _ _ _ rest
    (trimmed-item c.args.map.now c.args.at c.args.start c.args.span can c.args.next rest o c.replace_key_at-first.new.self is c.insert_at.new.self _ _ c.in-Err.ensures.refused)
    c.replace_key_at.ensures))

pub returns-in-Err-clause-cause : goal.returns-in-Err-clause-cause
returns-in-Err-clause-cause g c =
    let can = c.requires.can in
    let over = c.requires.next can.here.place can.here.has in
    let rest = over.0 in
    let o = over.1 in
    let is = key-exchanged c.args.map.now c.replace_key_at-first.new.self c.args.next _ _ _ rest (o.item.item ∙ o.listed) c.replace_key_at-first.ensures in
    let had = c.replace_key_at-first.ensures.had in
    let first : c.replace_key_at-first.result ≡ o.first = ap (λ (z : ℕ × Span _). z.0) (same_Some _ _ (sym had ∙ o.item.item ∙ o.listed)) in
    rw c.refused_by_node.ensures.cause
    (trimmed-refused c.args.map.now c.args.at c.args.start c.args.span can c.args.next rest o c.replace_key_at-first.new.self is c.insert_at.new.self _ _ c.in-Err.ensures.refused
    c.replace_key_at.new.self
    (rw first at
    (key-exchanged c.insert_at.new.self c.replace_key_at.new.self c.args.next _ _ _ rest
    (trimmed-item c.args.map.now c.args.at c.args.start c.args.span can c.args.next rest o c.replace_key_at-first.new.self is c.insert_at.new.self _ _ c.in-Err.ensures.refused)
    c.replace_key_at.ensures)))
