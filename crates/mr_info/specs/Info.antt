-- The text of INFO's section on replication.
use Rattle.std.specs.Prelude.{ℕ, List, ◌∷◌, ◌++◌, Bool, Option, Some, None, length, codes, if◌then◌else◌}
use Rattle.std.specs.Fmt.{decimal}
use Rattle.mr_resp.specs.Spelling.{line_end}
use Rattle.mr_repl.specs.Backlog.{first_of}
use Rattle.mr_repl.specs.Lineage.{LineageState}
use Rattle.mr_repl.specs.ReplId.{digits_of}

-- a line of INFO: a field and its value
unfoldable pub line : List ℕ → List ℕ → List ℕ
line name value = name ++ (58 ∷ value ++ line_end)

abbrev pub role_text : Bool → List ℕ
role_text replica = if replica then codes "slave" else codes "master"

-- the digits of the id that the stream had before, or of the one that stands for none
abbrev pub second_id_text : Option (List ℕ × ℕ) → List ℕ
second_id_text None = codes "0000000000000000000000000000000000000000"
second_id_text (Some second) = digits_of second.0

-- the offset of the first byte that is no longer that one's
abbrev pub second_offset_text : Option (List ℕ × ℕ) → List ℕ
second_offset_text None = codes "-1"
second_offset_text (Some second) = decimal second.1

-- The section on replication, of a master or of a replica (true), which so many links follow, and of its lineage.
abbrev pub info_text : Bool → ℕ → LineageState → List ℕ
info_text replica followers lineage =
    (codes "# Replication" ++ line_end)
    ++ line (codes "role") (role_text replica)
    ++ line (codes "connected_slaves") (decimal followers)
    ++ line (codes "master_replid") (digits_of lineage.id)
    ++ line (codes "master_replid2") (second_id_text lineage.second)
    ++ line (codes "master_repl_offset") (decimal lineage.stream.offset)
    ++ line (codes "second_repl_offset") (second_offset_text lineage.second)
    ++ line (codes "repl_backlog_active") (decimal 1)
    ++ line (codes "repl_backlog_size") (decimal lineage.stream.capacity)
    ++ line (codes "repl_backlog_first_byte_offset") (decimal (first_of lineage.stream))
    ++ line (codes "repl_backlog_histlen") (decimal (length lineage.stream.held))
