-- What the code's structs of lent rows stand for, for the contracts of its private functions.
use Rattle.forcerenew.specs.Rows.{Servers, servers_of, Server}
use Rattle.forcerenew.specs.declared.rows.LentServers.{LentServers}
use Rattle.forcerenew.specs.declared.rows.LentServer.{LentServer}

abbrev pub servers_in : LentServers → Servers
servers_in s = servers_of s.nonces.now s.counters.now s.marks.now

abbrev pub server_in : LentServer → Server
server_in w = record { nonce = w.nonce.bytes.now; counter = w.counter; mark = w.mark }
