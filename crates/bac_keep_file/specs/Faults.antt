-- How a keeper names the faults of its database.
use Rattle.sqlite_trees.specs.declared.error.StoreError.{StoreError}
use Rattle.sqlite_trees.specs.declared.error.StoreError.TheVariants as store
use Rattle.bac_keep.specs.declared.fault.DatabaseFault.{DatabaseFault}
use Rattle.bac_keep.specs.declared.fault.DatabaseFault.TheVariants as database
use Rattle.bac_keep.specs.declared.fault.KeepFault.{KeepFault}
use Rattle.bac_keep.specs.declared.fault.KeepFault.TheVariants.{Database}

abbrev pub database_fault : StoreError → DatabaseFault
database_fault store.OutOfMemory = database.OutOfMemory
database_fault store.Io = database.Io
database_fault store.Corrupt = database.Corrupt
database_fault store.Full = database.Full
database_fault store.Broken = database.Broken
database_fault store.Unstorable = database.Unstorable

abbrev pub keep_fault : StoreError → KeepFault
keep_fault e = Database (database_fault e)
