-- The Error for each refusal in code.
use Rattle.std.specs.Prelude.{Option, Some, None}
use Rattle.bac_service.specs.Replies.{Reply}
use Rattle.bac_store.specs.declared.refusal.Refusal.{Refusal}
use Rattle.bac_store.specs.declared.refusal.Refusal.TheVariants as case
use Rattle.bac_store.specs.Replies as reply

abbrev pub refused : Refusal → Reply
refused case.UnknownObject = reply.UNKNOWN_OBJECT
refused case.UnknownProperty = reply.UNKNOWN_PROPERTY
refused case.PropertyIsNotAnArray = reply.PROPERTY_IS_NOT_AN_ARRAY
refused case.InvalidArrayIndex = reply.INVALID_ARRAY_INDEX
refused case.WriteAccessDenied = reply.WRITE_ACCESS_DENIED
refused case.InvalidDataType = reply.INVALID_DATA_TYPE
refused case.ValueOutOfRange = reply.VALUE_OUT_OF_RANGE
refused case.NoSpaceToWrite = reply.NO_SPACE_TO_WRITE
refused case.InvalidFileAccessMethod = reply.INVALID_FILE_ACCESS_METHOD
refused case.FileAccessDenied = reply.FILE_ACCESS_DENIED
refused case.InvalidFileStartPosition = reply.INVALID_FILE_START_POSITION

-- the Error of a refusal, or this reply if there is none
abbrev pub refused_or : Reply → Option Refusal → Reply
refused_or reply None = reply
refused_or reply (Some r) = refused r
