-- The body of an error: compact JSON with its members in the order of their names (RFC 9083 6).
use Rattle.std.specs.Prelude.{ℕ, Bool, ◌==◌, if◌then◌else◌, List, [], ◌++◌, codes, decimal}
use Rattle.wire_http.specs.Reply.{title_of}

-- what is wrong, in words; of a 409 with the entries that the register has, of a 503 whether the register is shut
unfoldable pub description_of : ℕ → ℕ → Bool → List ℕ
description_of code entries shut =
    if code == 400 then codes "malformed query"
    else (if code == 401 then codes "no such key"
    else (if code == 404 then codes "no such object"
    else (if code == 405 then codes "method not served here"
    else (if code == 409 then codes "the register has " ++ (decimal entries ++ codes " entries")
    else (if code == 411 then codes "no content length"
    else (if code == 413 then codes "body over 4096 bytes"
    else (if code == 500 then codes "the disk failed"
    else (if code == 503 then (if shut then codes "no snapshot" else codes "no memory") else []))))))))

abbrev pub description_member : ℕ → ℕ → Bool → List ℕ
description_member code entries shut = codes "\"description\":[\"" ++ (description_of code entries shut ++ codes "\"]")

abbrev pub code_member : ℕ → List ℕ
code_member code = codes "\"errorCode\":" ++ decimal code

abbrev pub title_member : ℕ → List ℕ
title_member code = codes "\"title\":\"" ++ (title_of code ++ codes "\"")

abbrev pub error_text : ℕ → ℕ → Bool → List ℕ
error_text code entries shut =
    codes "{" ++ (description_member code entries shut ++ (codes "," ++ (code_member code
    ++ (codes ",\"rdapConformance\":[\"rdap_level_0\"]," ++ (title_member code ++ codes "}")))))
