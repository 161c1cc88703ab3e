-- The numbers of object types and properties (clauses 12 and 21), and the store's own limits, as constants in code.
use Rattle.std.specs.Prelude.{ℕ}
use Rattle.bac_value.specs.declared.kinds.TheConstants as kinds
use Rattle.bac_store.specs.declared.limits.TheConstants as code

-- own limit: the greatest length of a property's values in octets
abbrev pub VALUE_LIMIT : ℕ
VALUE_LIMIT = code.VALUE_LIMIT

-- own limit: the greatest length of a file in octets
abbrev pub FILE_LIMIT : ℕ
FILE_LIMIT = code.FILE_LIMIT

-- clause 20.2.14: the greatest number of 22 bits, which is a wildcard for any instance
abbrev pub ANY_INSTANCE : ℕ
ANY_INSTANCE = code.ANY_INSTANCE

-- ---- object types (BACnetObjectType)

-- proprietary (clause 23.1)
abbrev pub FIRST_VENDOR_TYPE : ℕ
FIRST_VENDOR_TYPE = code.FIRST_VENDOR_TYPE

abbrev pub LAST_VENDOR_TYPE : ℕ
LAST_VENDOR_TYPE = code.LAST_VENDOR_TYPE

abbrev pub ANALOG_INPUT : ℕ
ANALOG_INPUT = code.ANALOG_INPUT

abbrev pub ANALOG_OUTPUT : ℕ
ANALOG_OUTPUT = code.ANALOG_OUTPUT

abbrev pub ANALOG_VALUE : ℕ
ANALOG_VALUE = code.ANALOG_VALUE

abbrev pub BINARY_INPUT : ℕ
BINARY_INPUT = code.BINARY_INPUT

abbrev pub BINARY_OUTPUT : ℕ
BINARY_OUTPUT = code.BINARY_OUTPUT

abbrev pub BINARY_VALUE : ℕ
BINARY_VALUE = code.BINARY_VALUE

abbrev pub DEVICE : ℕ
DEVICE = code.DEVICE

abbrev pub FILE : ℕ
FILE = code.FILE

abbrev pub MULTI_STATE_INPUT : ℕ
MULTI_STATE_INPUT = code.MULTI_STATE_INPUT

abbrev pub MULTI_STATE_OUTPUT : ℕ
MULTI_STATE_OUTPUT = code.MULTI_STATE_OUTPUT

abbrev pub MULTI_STATE_VALUE : ℕ
MULTI_STATE_VALUE = code.MULTI_STATE_VALUE

-- ---- properties (BACnetPropertyIdentifier)

-- proprietary (clause 23.1)
abbrev pub FIRST_VENDOR_PROPERTY : ℕ
FIRST_VENDOR_PROPERTY = code.FIRST_VENDOR_PROPERTY

abbrev pub LAST_VENDOR_PROPERTY : ℕ
LAST_VENDOR_PROPERTY = code.LAST_VENDOR_PROPERTY

abbrev pub DESCRIPTION : ℕ
DESCRIPTION = code.DESCRIPTION

abbrev pub FILE_ACCESS_METHOD : ℕ
FILE_ACCESS_METHOD = code.FILE_ACCESS_METHOD

abbrev pub FILE_SIZE : ℕ
FILE_SIZE = code.FILE_SIZE

abbrev pub OBJECT_IDENTIFIER : ℕ
OBJECT_IDENTIFIER = code.OBJECT_IDENTIFIER

abbrev pub OBJECT_LIST : ℕ
OBJECT_LIST = code.OBJECT_LIST

abbrev pub OBJECT_NAME : ℕ
OBJECT_NAME = code.OBJECT_NAME

abbrev pub OBJECT_TYPE : ℕ
OBJECT_TYPE = code.OBJECT_TYPE

abbrev pub PRESENT_VALUE : ℕ
PRESENT_VALUE = code.PRESENT_VALUE

abbrev pub READ_ONLY : ℕ
READ_ONLY = code.READ_ONLY

-- arrays of application values

abbrev pub ACTION_TEXT : ℕ
ACTION_TEXT = code.ACTION_TEXT

abbrev pub STATE_TEXT : ℕ
STATE_TEXT = code.STATE_TEXT

abbrev pub CONFIGURATION_FILES : ℕ
CONFIGURATION_FILES = code.CONFIGURATION_FILES

abbrev pub PROPERTY_LIST : ℕ
PROPERTY_LIST = code.PROPERTY_LIST

-- the access method of every file (BACnetFileAccessMethod)
abbrev pub STREAM_ACCESS : ℕ
STREAM_ACCESS = code.STREAM_ACCESS

-- ---- application tags (clause 20.2.1.4)

abbrev pub UNSIGNED : ℕ
UNSIGNED = kinds.UNSIGNED

abbrev pub SIGNED : ℕ
SIGNED = kinds.SIGNED

abbrev pub REAL : ℕ
REAL = kinds.REAL

abbrev pub CHARACTER_STRING : ℕ
CHARACTER_STRING = kinds.CHARACTER_STRING

abbrev pub ENUMERATED : ℕ
ENUMERATED = kinds.ENUMERATED

-- the first octet of an Enumerated with one octet of contents: its tag
abbrev pub STATE_TAG : ℕ
STATE_TAG = code.STATE_TAG

-- the same of an Unsigned
abbrev pub UNSIGNED_TAG : ℕ
UNSIGNED_TAG = code.UNSIGNED_TAG

-- own limit: the most objects whose identifiers, each of five octets, are the values of one property
abbrev pub OBJECTS_LIMIT : ℕ
OBJECTS_LIMIT = code.OBJECTS_LIMIT
