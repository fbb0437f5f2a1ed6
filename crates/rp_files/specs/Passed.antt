-- A fault of the folders as one of their reader.
use Rattle.rp_io.specs.declared.fault.IoFault.{IoFault}
use Rattle.rp_io.specs.declared.fault.IoFault.TheVariants.{Failed, Memory as Starved}
use Rattle.rp_files.specs.declared.fault.LoadFault.{LoadFault}
use Rattle.rp_files.specs.declared.fault.LoadFault.TheVariants.{FolderFault, Memory}

abbrev pub passed : IoFault → LoadFault
passed Failed = FolderFault
passed Starved = Memory
