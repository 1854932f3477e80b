-- The printed texts of errors. That of a failed read or write is the system's, and not known.
use Rattle.std.specs.Prelude.{ℕ, List, ◌++◌, Option, Some, None, codes}
use Rattle.std.specs.Fmt.{decimal}
use Rattle.btree_item.specs.Refusals.{fault_text}
use Rattle.btree_image.specs.declared.fault.BadImage.{BadImage}
use Rattle.btree_image.specs.declared.fault.BadImage.TheVariants.{Short, Magic, Version, Kind, Count, Value, Vacant, Sum, Trailing}
use Rattle.btree_save.specs.declared.error.OpenError.{OpenError}
use Rattle.btree_save.specs.declared.error.OpenError.TheVariants as errors
use Rattle.btree_save.specs.declared.error.SaveError.{SaveError}
use Rattle.btree_save.specs.declared.error.SaveError.TheVariants as saves

-- what is wrong with bytes
abbrev pub image_text : BadImage → List ℕ
image_text Short = codes "the file ends too early"
image_text Magic = codes "this is no saved map"
image_text Version = codes "another version"
image_text Kind = codes "neither a node nor a vacant place"
image_text Count = codes "a node has no items, or too many"
image_text Value = codes "no such key or value"
image_text Vacant = codes "the last place has no node"
image_text Sum = codes "the check sum is wrong"
image_text Trailing = codes "bytes after the end"

-- why a map is not opened
abbrev pub open_text : OpenError → Option (List ℕ)
open_text (errors.Read e) = None
open_text errors.Store = Some (codes "no room for a node")
open_text (errors.Image fault at) = Some (codes "at byte " ++ decimal at ++ codes ": " ++ image_text fault)
open_text (errors.Tree fault) = Some (fault_text fault)

-- why one is not saved
abbrev pub save_text : SaveError → Option (List ℕ)
save_text saves.Memory = Some (codes "no memory for the bytes")
save_text (saves.Write e) = None
