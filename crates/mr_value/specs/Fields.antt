-- What keeps the fields of a hash.
use Rattle.std.specs.Prelude.{◌<◌, length}
use Rattle.mr_map.specs.Bytes.{Bytes, ByteMap}
use Rattle.mr_value.specs.declared.kept_fields.KeptFields.{KeptFields}
use Rattle.mr_value.specs.declared.kept_fields.KeptFields.TheVariants.{Few, Many}

-- the value of each field, however they are kept
abbrev pub fields_in : KeptFields → ByteMap Bytes
fields_in (Few fields) = fields
fields_in (Many fields) = fields.value

-- what is packed must be short
abbrev pub HasRoom : Bytes → Bytes → KeptFields → Type 0
HasRoom field value (Few fields) = (length field < 256) × (length value < 256)
HasRoom field value (Many fields) = Unit {0}
