-- Why bytes are not opened, and that those of a map are.
use Rattle.std.proofs.Common.{◌≡◌, ℕ, List, [], ◌++◌, length, Option, Some, None, Result, Ok, Err, refl, sym, ap, subst, ◌∙◌}
use Rattle.std.specs.Prelude.{IfErr, IfOk, IfSome, OnOk}
use Rattle.std.specs.Io.KnownBytes.{IsAtEnd}
use Rattle.std.specs.declared.cmp.Ordering.{Ordering}
use Rattle.btree_laws.specs.TreeState.{TreeState}
use Rattle.btree_raw.specs.Limit.{IsBTreeWithinLimit}
use Rattle.btree_item.specs.declared.fault.Fault.{Fault}
use Rattle.btree_image.specs.declared.fault.ReadError.{ReadError}
use Rattle.btree_image.specs.declared.fault.ReadError.TheVariants as reads
use Rattle.btree_image.specs.Reading.{image_at}
use Rattle.btree_image.specs.Saved.{IsErrorOf, IsSavedAs, LacksNode, LacksRoom}
use Rattle.btree_image.specs.SavedLaws.{saved-once}
use Rattle.btree_spelled.specs.Spelled.{Read}
use Rattle.btree_image.proofs.RoomLaws.{lacks-node}
use Rattle.btree_save.specs.declared.error.OpenError.{OpenError}
use Rattle.btree_save.specs.declared.error.OpenError.TheVariants as errors
use Rattle.btree_save.specs.Errors.{error_of}
use Rattle.btree_save.specs.Opened.{IsErrorFrom, IsNoFaultOf, IsOpenedFrom, IsReadToEnd, IsRefusedBy, Opens, OpensFrom}

module _ {K V : Type 0} (read_key : Read K) (read_value : Read V) (cmp : K → K → Ordering) (MayLack : ℕ → Type 0) (bytes : List ℕ) where
  abbrev lacks : Type 0
  lacks = LacksRoom read_key read_value MayLack bytes

  pub read-refused : (error : ReadError) → IsErrorOf lacks (image_at read_key read_value bytes) error → IsRefusedBy read_key read_value cmp MayLack bytes (error_of (length bytes) error)
  read-refused reads.Store is = is
  read-refused (reads.Image stop) is = record { left = stop.left; first = is; place = refl }

  pub read-opens : (error : ReadError) → IsErrorOf lacks (image_at read_key read_value bytes) error → (s : TreeState K V) → IsSavedAs read_key read_value s bytes → IsBTreeWithinLimit s cmp
      → (error_of (length bytes) error ≡ errors.Store) × LacksNode MayLack s
  read-opens reads.Store is s saved within = (refl, lacks-node read_key read_value MayLack s bytes is saved)
  read-opens (reads.Image stop) is s saved within = let both : Ok saved.image ≡ Err stop = sym saved.read ∙ is in absurd cc

  -- bytes of a well formed tree are no other tree's
  pub tree-opens : (raw : TreeState K V) (fault : Fault) → IsSavedAs read_key read_value raw bytes → ¬ IsBTreeWithinLimit raw cmp → (s : TreeState K V) → IsSavedAs read_key read_value s bytes → IsBTreeWithinLimit s cmp
      → (errors.Tree fault ≡ errors.Store) × LacksNode MayLack s
  tree-opens raw fault opened other s saved within =
      let same = saved-once read_key read_value s raw bytes saved opened in
      absurd (other (subst (λ (t : TreeState K V). IsBTreeWithinLimit t cmp) (sym same) within))

  -- so it is with what a reader gave
  pub error-from : (remaining : Option (List ℕ)) → IfSome remaining (λ left. bytes ≡ left) → (e : OpenError) → IsRefusedBy read_key read_value cmp MayLack bytes e → IsErrorFrom read_key read_value cmp MayLack remaining e
  error-from remaining all (errors.Read e) refused = absurd refused
  error-from remaining all errors.Store refused = record { bytes = bytes; all = all; refused = refused }
  error-from remaining all (errors.Image fault at) refused = record { bytes = bytes; all = all; refused = refused }
  error-from remaining all (errors.Tree fault) refused = record { bytes = bytes; all = all; refused = refused }

  pub opened-from : {E : Type 0} (remaining : Option (List ℕ)) → IfSome remaining (λ left. bytes ≡ left) → (r : Result (TreeState K V) E) → IfOk r (λ s. IsSavedAs read_key read_value s bytes) → IfOk r (IsOpenedFrom read_key read_value remaining)
  opened-from remaining all (Ok s) saved = record { bytes = bytes; all = all; saved = saved }
  opened-from remaining all (Err e) saved = tt

  pub refused-from : {T : Type 0} (remaining : Option (List ℕ)) → IfSome remaining (λ left. bytes ≡ left) → (r : Result T OpenError) → IfErr r (IsRefusedBy read_key read_value cmp MayLack bytes) → IfErr r (IsErrorFrom read_key read_value cmp MayLack remaining)
  refused-from remaining all (Ok s) refused = tt
  refused-from remaining all (Err e) refused = error-from remaining all e refused

  pub opens-from : {T : Type 0} (remaining : Option (List ℕ)) → IfSome remaining (λ left. bytes ≡ left) → (r : Result T OpenError) → Opens read_key read_value cmp MayLack bytes r → OpensFrom read_key read_value cmp MayLack remaining r
  opens-from remaining all (Ok x) opens s left is saved within = tt
  opens-from remaining all (Err e) opens s left is saved within =
      let same : bytes ≡ left = subst (λ (o : Option (List ℕ)). IfSome o (λ xs. bytes ≡ xs)) is all in
      let told = opens s (subst (IsSavedAs read_key read_value s) (sym same) saved) within in
      subst (IsNoFaultOf read_key read_value cmp MayLack s) (sym told.0) told.1

-- a reader that came to its end gave all that it had left
pub all-read : (remaining : Option (List ℕ)) (start end bytes : List ℕ) → start ≡ [] → bytes ≡ end → IfSome remaining (λ xs. end ≡ start ++ xs) → IfSome remaining (λ left. bytes ≡ left)
all-read None start end bytes none is h = tt
all-read (Some xs) start end bytes none is h = is ∙ h ∙ ap (λ (t : List ℕ). t ++ xs) none

-- what it gave is opened or not: it is at its end
pub to-end : {T : Type 0} (remaining : Option (List ℕ)) (r : Result T OpenError) → IsAtEnd remaining → OnOk r (IsAtEnd remaining)
to-end remaining (Ok s) end = end
to-end remaining (Err e) end = tt

pub to-end-at-fault : {T : Type 0} (remaining : Option (List ℕ)) (r : Result T OpenError) → IsAtEnd remaining → IfErr r (IsReadToEnd remaining)
to-end-at-fault remaining (Ok s) end = tt
to-end-at-fault remaining (Err (errors.Read e)) end = tt
to-end-at-fault remaining (Err errors.Store) end = end
to-end-at-fault remaining (Err (errors.Image fault at)) end = end
to-end-at-fault remaining (Err (errors.Tree fault)) end = end
