-- The texts of the faults of an item.
use Rattle.std.specs.Prelude.{ℕ, List, codes}
use Rattle.mcs_script.specs.declared.fault.ItemFault.{ItemFault}
use Rattle.mcs_script.specs.declared.fault.ItemFault.TheVariants as fault

abbrev pub item_fault_text : ItemFault → List ℕ
item_fault_text fault.UnknownWord = codes "unknown word"
item_fault_text fault.MissingPart = codes "missing part"
item_fault_text fault.ExtraPart = codes "extra part"
item_fault_text fault.BadNumber = codes "bad number"
