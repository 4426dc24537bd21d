-- The texts of faults and of their places.
use Rattle.std.specs.Prelude.{ℕ, zero, suc, List, [], ◌++◌, codes, decimal}
use Rattle.mcs_control.specs.Fault.{control_fault_text}
use Rattle.mcs_script.specs.Fault.{item_fault_text}
use Rattle.mcs_load.specs.declared.fault.FaultKind.{FaultKind}
use Rattle.mcs_load.specs.declared.fault.FaultKind.TheVariants as kind
use Rattle.mcs_load.specs.declared.fault.LoadFault.{LoadFault}
use Rattle.mcs_load.specs.declared.spot.Key.{Key}
use Rattle.mcs_load.specs.declared.spot.Key.TheVariants as key
use Rattle.mcs_load.specs.declared.spot.Section.{Section}
use Rattle.mcs_load.specs.declared.spot.Section.TheVariants as section
use Rattle.mcs_load.specs.declared.spot.Spot.{Spot}
use Rattle.mcs_load.specs.Keys.{key_name}

abbrev pub section_name : Section → List ℕ
section_name section.File = codes "file"
section_name section.Top = codes "top"
section_name section.Context = codes "context"
section_name section.Note = codes "note"
section_name section.Thread = codes "thread"
section_name section.Order = codes "order"
section_name section.Link = codes "link"
section_name section.Source = codes "source"
section_name section.Server = codes "server"
section_name section.Chain = codes "chain"

-- a space and the row, or nothing for 0
abbrev pub row_text : ℕ → List ℕ
row_text zero = []
row_text (suc before) = codes " " ++ decimal (suc before)

-- a space and the key, or nothing
abbrev pub key_text : Key → List ℕ
key_text key.Whole = []
key_text k = codes " " ++ key_name k

-- ` item ` and the number, or nothing for 0
abbrev pub item_text : ℕ → List ℕ
item_text zero = []
item_text (suc before) = codes " item " ++ decimal (suc before)

-- for example `thread 2 script item 3`
abbrev pub place_text : Spot → List ℕ
place_text spot = section_name spot.section ++ row_text spot.row ++ key_text spot.key ++ item_text spot.item

abbrev pub kind_text : FaultKind → List ℕ
kind_text kind.NotToml = codes "not TOML"
kind_text kind.UnknownKey = codes "unknown key"
kind_text kind.MissingKey = codes "missing key"
kind_text kind.WrongKind = codes "wrong kind"
kind_text kind.OutOfRange = codes "out of range"
kind_text kind.TooMany = codes "too many"
kind_text kind.BadName = codes "bad name"
kind_text kind.DoubleName = codes "double name"
kind_text kind.UnknownName = codes "unknown name"
kind_text (kind.BadItem fault) = codes "bad item: " ++ item_fault_text fault
kind_text kind.WaitLast = codes "wait is last"
kind_text (kind.Control fault) = codes "control: " ++ control_fault_text fault
kind_text kind.ContextTaken = codes "context taken"
kind_text kind.OtherCore = codes "other core"
kind_text kind.KindChange = codes "kind change"
kind_text kind.SelfLink = codes "self link"
kind_text kind.DoubleLink = codes "double link"
kind_text kind.ModeOfSlice = codes "mode of slice"
kind_text kind.OnWithoutWait = codes "on without wait"
kind_text kind.NoWait = codes "no wait"
kind_text kind.NoMemory = codes "no memory"

-- a fault and its place. Out of memory has no place.
abbrev pub fault_text : FaultKind → Spot → List ℕ
fault_text kind.NoMemory spot = kind_text kind.NoMemory
fault_text k spot = kind_text k ++ codes " at " ++ place_text spot

abbrev pub load_fault_text : LoadFault → List ℕ
load_fault_text fault = fault_text fault.kind fault.spot
