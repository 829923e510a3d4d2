-- The head of a reply: the status line, then the header lines that apply, then an empty line (RFC 9112 2.1, 4).
use Rattle.std.specs.Prelude.{ℕ, Bool, true, false, ◌==◌, if◌then◌else◌, List, [], ◌∷◌, ◌++◌, Option, None, Some, codes, decimal}
use Rattle.std.specs.List.{list_any}
use Rattle.wire_http.specs.declared.reply.ReplyHead.{ReplyHead}

-- the codes that replies have (RFC 9110 15)
abbrev pub is_reply_code : ℕ → Bool
is_reply_code code = list_any (λ c. c == code) (200 ∷ 400 ∷ 401 ∷ 404 ∷ 405 ∷ 409 ∷ 411 ∷ 413 ∷ 500 ∷ 503 ∷ [])

-- the reason phrase of a code
unfoldable pub title_of : ℕ → List ℕ
title_of code =
    if code == 200 then codes "OK"
    else (if code == 400 then codes "Bad Request"
    else (if code == 401 then codes "Unauthorized"
    else (if code == 404 then codes "Not Found"
    else (if code == 405 then codes "Method Not Allowed"
    else (if code == 409 then codes "Conflict"
    else (if code == 411 then codes "Length Required"
    else (if code == 413 then codes "Content Too Large"
    else (if code == 500 then codes "Internal Server Error"
    else (if code == 503 then codes "Service Unavailable" else [])))))))))

-- the end of a line (RFC 9112 2.2)
abbrev pub line_end : List ℕ
line_end = codes "\r\n"

abbrev pub status_line : ℕ → List ℕ
status_line code = codes "HTTP/1.1 " ++ (decimal code ++ (codes " " ++ (title_of code ++ line_end)))

-- RFC 9110 8.3; RFC 9083 has the type of JSON
abbrev pub content_type : Bool → List ℕ
content_type true = codes "Content-Type: application/rdap+json" ++ line_end
content_type false = codes "Content-Type: text/plain" ++ line_end

-- RFC 9110 8.6
abbrev pub content_length : ℕ → List ℕ
content_length length = codes "Content-Length: " ++ (decimal length ++ line_end)

-- how many entries the register had that was asked
abbrev pub serial_line : Option ℕ → List ℕ
serial_line None = []
serial_line (Some entries) = codes "Register-Serial: " ++ (decimal entries ++ line_end)

-- which methods are served (RFC 9110 10.2.1)
abbrev pub allow_line : Bool → List ℕ
allow_line true = codes "Allow: POST" ++ line_end
allow_line false = codes "Allow: GET, HEAD" ++ line_end

-- a 401 asks for a key (RFC 9110 11.6.1, RFC 6750 3), a 405 names the methods
abbrev pub refusal_line : ℕ → Bool → List ℕ
refusal_line code post =
    if code == 401 then codes "WWW-Authenticate: Bearer realm=\"desk\"" ++ line_end
    else (if code == 405 then allow_line post else [])

-- RFC 9110 7.6.1
abbrev pub close_line : Bool → List ℕ
close_line true = codes "Connection: close" ++ line_end
close_line false = []

-- the whole head
abbrev pub head_text : ReplyHead → List ℕ
head_text h =
    status_line h.code ++ (content_type h.json ++ (content_length h.length ++ (serial_line h.serial
    ++ (refusal_line h.code h.post ++ (close_line h.close ++ line_end)))))
