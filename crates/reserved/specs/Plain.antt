-- The phrases of `get_plain_reserved_token`: two words, then one. What the Rust lists twice stands once.
use Rattle.std.specs.Prelude.{List, [], ◌∷◌, ◌++◌}
use Rattle.recognisers.specs.Text.{bytes}
use Rattle.reserved.specs.Phrases.{Phrase, phrase}

-- `get_plain_reserved_two_token`
unfoldable pub plain_two_phrases : List Phrase
plain_two_phrases =
    phrase (bytes "CHARACTER SET")
    ∷ phrase (bytes "DO NOTHING")
    ∷ phrase (bytes "ON CONFLICT")
    ∷ phrase (bytes "ON CONSTRAINT")
    ∷ phrase (bytes "ON DELETE")
    ∷ phrase (bytes "ON UPDATE")
    ∷ phrase (bytes "DISTINCT FROM")
    ∷ phrase (bytes "PARTITIONED BY")
    ∷ []

-- `get_plain_reserved_one_token`, A
unfoldable pub plain_a : List Phrase
plain_a =
    phrase (bytes "ACCESSIBLE")
    ∷ phrase (bytes "ACTION")
    ∷ phrase (bytes "AGAINST")
    ∷ phrase (bytes "AGGREGATE")
    ∷ phrase (bytes "ALGORITHM")
    ∷ phrase (bytes "ALL")
    ∷ phrase (bytes "ALTER")
    ∷ phrase (bytes "ANALYSE")
    ∷ phrase (bytes "ANALYZE")
    ∷ phrase (bytes "AS")
    ∷ phrase (bytes "ASC")
    ∷ phrase (bytes "AUTOCOMMIT")
    ∷ phrase (bytes "AUTO_INCREMENT")
    ∷ []

-- `get_plain_reserved_one_token`, B
unfoldable pub plain_b : List Phrase
plain_b =
    phrase (bytes "BACKUP")
    ∷ phrase (bytes "BETWEEN")
    ∷ phrase (bytes "BINLOG")
    ∷ phrase (bytes "BOTH")
    ∷ []

-- `get_plain_reserved_one_token`, C
unfoldable pub plain_c : List Phrase
plain_c =
    phrase (bytes "CASCADE")
    ∷ phrase (bytes "CASE")
    ∷ phrase (bytes "CHANGE")
    ∷ phrase (bytes "CHANGED")
    ∷ phrase (bytes "CHARSET")
    ∷ phrase (bytes "CHECK")
    ∷ phrase (bytes "CHECKSUM")
    ∷ phrase (bytes "COLLATE")
    ∷ phrase (bytes "COLLATION")
    ∷ phrase (bytes "COLUMN")
    ∷ phrase (bytes "COLUMNS")
    ∷ phrase (bytes "COMMENT")
    ∷ phrase (bytes "COMMIT")
    ∷ phrase (bytes "COMMITTED")
    ∷ phrase (bytes "COMPRESSED")
    ∷ phrase (bytes "CONCURRENT")
    ∷ phrase (bytes "CONSTRAINT")
    ∷ phrase (bytes "CONTAINS")
    ∷ phrase (bytes "CONVERT")
    ∷ phrase (bytes "CREATE")
    ∷ phrase (bytes "CROSS")
    ∷ phrase (bytes "CURRENT_TIMESTAMP")
    ∷ []

-- `get_plain_reserved_one_token`, D
unfoldable pub plain_d : List Phrase
plain_d =
    phrase (bytes "DATABASE")
    ∷ phrase (bytes "DATABASES")
    ∷ phrase (bytes "DAY")
    ∷ phrase (bytes "DAY_HOUR")
    ∷ phrase (bytes "DAY_MINUTE")
    ∷ phrase (bytes "DAY_SECOND")
    ∷ phrase (bytes "DEFAULT")
    ∷ phrase (bytes "DEFINER")
    ∷ phrase (bytes "DELAYED")
    ∷ phrase (bytes "DELETE")
    ∷ phrase (bytes "DESC")
    ∷ phrase (bytes "DESCRIBE")
    ∷ phrase (bytes "DETERMINISTIC")
    ∷ phrase (bytes "DISTINCT")
    ∷ phrase (bytes "DISTINCTROW")
    ∷ phrase (bytes "DIV")
    ∷ phrase (bytes "DO")
    ∷ phrase (bytes "DROP")
    ∷ phrase (bytes "DUMPFILE")
    ∷ phrase (bytes "DUPLICATE")
    ∷ phrase (bytes "DYNAMIC")
    ∷ []

-- `get_plain_reserved_one_token`, E
unfoldable pub plain_e : List Phrase
plain_e =
    phrase (bytes "ELSE")
    ∷ phrase (bytes "ENCLOSED")
    ∷ phrase (bytes "END")
    ∷ phrase (bytes "ENGINE")
    ∷ phrase (bytes "ENGINES")
    ∷ phrase (bytes "ENGINE_TYPE")
    ∷ phrase (bytes "ESCAPE")
    ∷ phrase (bytes "ESCAPED")
    ∷ phrase (bytes "EVENTS")
    ∷ phrase (bytes "EXEC")
    ∷ phrase (bytes "EXECUTE")
    ∷ phrase (bytes "EXISTS")
    ∷ phrase (bytes "EXPLAIN")
    ∷ phrase (bytes "EXTENDED")
    ∷ []

-- `get_plain_reserved_one_token`, F
unfoldable pub plain_f : List Phrase
plain_f =
    phrase (bytes "FAST")
    ∷ phrase (bytes "FETCH")
    ∷ phrase (bytes "FIELDS")
    ∷ phrase (bytes "FILE")
    ∷ phrase (bytes "FIRST")
    ∷ phrase (bytes "FIXED")
    ∷ phrase (bytes "FLUSH")
    ∷ phrase (bytes "FOR")
    ∷ phrase (bytes "FORCE")
    ∷ phrase (bytes "FOREIGN")
    ∷ phrase (bytes "FULL")
    ∷ phrase (bytes "FULLTEXT")
    ∷ phrase (bytes "FUNCTION")
    ∷ []

-- `get_plain_reserved_one_token`, G
unfoldable pub plain_g : List Phrase
plain_g =
    phrase (bytes "GLOBAL")
    ∷ phrase (bytes "GRANT")
    ∷ phrase (bytes "GRANTS")
    ∷ phrase (bytes "GROUP_CONCAT")
    ∷ []

-- `get_plain_reserved_one_token`, H
unfoldable pub plain_h : List Phrase
plain_h =
    phrase (bytes "HEAP")
    ∷ phrase (bytes "HIGH_PRIORITY")
    ∷ phrase (bytes "HOSTS")
    ∷ phrase (bytes "HOUR")
    ∷ phrase (bytes "HOUR_MINUTE")
    ∷ phrase (bytes "HOUR_SECOND")
    ∷ []

-- `get_plain_reserved_one_token`, I
unfoldable pub plain_i : List Phrase
plain_i =
    phrase (bytes "IDENTIFIED")
    ∷ phrase (bytes "IF")
    ∷ phrase (bytes "IFNULL")
    ∷ phrase (bytes "IGNORE")
    ∷ phrase (bytes "IN")
    ∷ phrase (bytes "INDEX")
    ∷ phrase (bytes "INDEXES")
    ∷ phrase (bytes "INFILE")
    ∷ phrase (bytes "INSERT")
    ∷ phrase (bytes "INSERT_ID")
    ∷ phrase (bytes "INSERT_METHOD")
    ∷ phrase (bytes "INTERVAL")
    ∷ phrase (bytes "INTO")
    ∷ phrase (bytes "INVOKER")
    ∷ phrase (bytes "IS")
    ∷ phrase (bytes "ISOLATION")
    ∷ []

-- `get_plain_reserved_one_token`, K
unfoldable pub plain_k : List Phrase
plain_k =
    phrase (bytes "KEY")
    ∷ phrase (bytes "KEYS")
    ∷ phrase (bytes "KILL")
    ∷ []

-- `get_plain_reserved_one_token`, L
unfoldable pub plain_l : List Phrase
plain_l =
    phrase (bytes "LAST_INSERT_ID")
    ∷ phrase (bytes "LEADING")
    ∷ phrase (bytes "LEVEL")
    ∷ phrase (bytes "LIKE")
    ∷ phrase (bytes "LINEAR")
    ∷ phrase (bytes "LINES")
    ∷ phrase (bytes "LOAD")
    ∷ phrase (bytes "LOCAL")
    ∷ phrase (bytes "LOCK")
    ∷ phrase (bytes "LOCKS")
    ∷ phrase (bytes "LOGS")
    ∷ phrase (bytes "LOW_PRIORITY")
    ∷ []

-- `get_plain_reserved_one_token`, M
unfoldable pub plain_m : List Phrase
plain_m =
    phrase (bytes "MARIA")
    ∷ phrase (bytes "MASTER")
    ∷ phrase (bytes "MASTER_CONNECT_RETRY")
    ∷ phrase (bytes "MASTER_HOST")
    ∷ phrase (bytes "MASTER_LOG_FILE")
    ∷ phrase (bytes "MATCH")
    ∷ phrase (bytes "MAX_CONNECTIONS_PER_HOUR")
    ∷ phrase (bytes "MAX_QUERIES_PER_HOUR")
    ∷ phrase (bytes "MAX_ROWS")
    ∷ phrase (bytes "MAX_UPDATES_PER_HOUR")
    ∷ phrase (bytes "MAX_USER_CONNECTIONS")
    ∷ phrase (bytes "MEDIUM")
    ∷ phrase (bytes "MERGE")
    ∷ phrase (bytes "MINUTE")
    ∷ phrase (bytes "MINUTE_SECOND")
    ∷ phrase (bytes "MIN_ROWS")
    ∷ phrase (bytes "MODE")
    ∷ phrase (bytes "MODIFY")
    ∷ phrase (bytes "MONTH")
    ∷ phrase (bytes "MRG_MYISAM")
    ∷ phrase (bytes "MYISAM")
    ∷ []

-- `get_plain_reserved_one_token`, N
unfoldable pub plain_n : List Phrase
plain_n =
    phrase (bytes "NAMES")
    ∷ phrase (bytes "NATURAL")
    ∷ phrase (bytes "NOT")
    ∷ phrase (bytes "NOW()")
    ∷ phrase (bytes "NULL")
    ∷ []

-- `get_plain_reserved_one_token`, O
unfoldable pub plain_o : List Phrase
plain_o =
    phrase (bytes "OFFSET")
    ∷ phrase (bytes "ON")
    ∷ phrase (bytes "ONLY")
    ∷ phrase (bytes "OPEN")
    ∷ phrase (bytes "OPTIMIZE")
    ∷ phrase (bytes "OPTION")
    ∷ phrase (bytes "OPTIONALLY")
    ∷ phrase (bytes "OUTFILE")
    ∷ []

-- `get_plain_reserved_one_token`, P
unfoldable pub plain_p : List Phrase
plain_p =
    phrase (bytes "PACK_KEYS")
    ∷ phrase (bytes "PAGE")
    ∷ phrase (bytes "PARTIAL")
    ∷ phrase (bytes "PARTITION")
    ∷ phrase (bytes "PARTITIONS")
    ∷ phrase (bytes "PASSWORD")
    ∷ phrase (bytes "PRIMARY")
    ∷ phrase (bytes "PRIVILEGES")
    ∷ phrase (bytes "PROCEDURE")
    ∷ phrase (bytes "PROCESS")
    ∷ phrase (bytes "PROCESSLIST")
    ∷ phrase (bytes "PURGE")
    ∷ []

-- `get_plain_reserved_one_token`, Q
unfoldable pub plain_q : List Phrase
plain_q =
    phrase (bytes "QUICK")
    ∷ []

-- `get_plain_reserved_one_token`, R
unfoldable pub plain_r : List Phrase
plain_r =
    phrase (bytes "RAID0")
    ∷ phrase (bytes "RAID_CHUNKS")
    ∷ phrase (bytes "RAID_CHUNKSIZE")
    ∷ phrase (bytes "RAID_TYPE")
    ∷ phrase (bytes "RANGE")
    ∷ phrase (bytes "READ")
    ∷ phrase (bytes "READ_ONLY")
    ∷ phrase (bytes "READ_WRITE")
    ∷ phrase (bytes "REFERENCES")
    ∷ phrase (bytes "REGEXP")
    ∷ phrase (bytes "RELOAD")
    ∷ phrase (bytes "RENAME")
    ∷ phrase (bytes "REPAIR")
    ∷ phrase (bytes "REPEATABLE")
    ∷ phrase (bytes "REPLACE")
    ∷ phrase (bytes "REPLICATION")
    ∷ phrase (bytes "RESET")
    ∷ phrase (bytes "RESTORE")
    ∷ phrase (bytes "RESTRICT")
    ∷ phrase (bytes "RETURN")
    ∷ phrase (bytes "RETURNS")
    ∷ phrase (bytes "REVOKE")
    ∷ phrase (bytes "RLIKE")
    ∷ phrase (bytes "ROLLBACK")
    ∷ phrase (bytes "ROW")
    ∷ phrase (bytes "ROWS")
    ∷ phrase (bytes "ROW_FORMAT")
    ∷ []

-- `get_plain_reserved_one_token`, S
unfoldable pub plain_s : List Phrase
plain_s =
    phrase (bytes "SECOND")
    ∷ phrase (bytes "SECURITY")
    ∷ phrase (bytes "SEPARATOR")
    ∷ phrase (bytes "SERIALIZABLE")
    ∷ phrase (bytes "SESSION")
    ∷ phrase (bytes "SHARE")
    ∷ phrase (bytes "SHOW")
    ∷ phrase (bytes "SHUTDOWN")
    ∷ phrase (bytes "SLAVE")
    ∷ phrase (bytes "SONAME")
    ∷ phrase (bytes "SOUNDS")
    ∷ phrase (bytes "SQL")
    ∷ phrase (bytes "SQL_AUTO_IS_NULL")
    ∷ phrase (bytes "SQL_BIG_RESULT")
    ∷ phrase (bytes "SQL_BIG_SELECTS")
    ∷ phrase (bytes "SQL_BIG_TABLES")
    ∷ phrase (bytes "SQL_BUFFER_RESULT")
    ∷ phrase (bytes "SQL_CACHE")
    ∷ phrase (bytes "SQL_CALC_FOUND_ROWS")
    ∷ phrase (bytes "SQL_LOG_BIN")
    ∷ phrase (bytes "SQL_LOG_OFF")
    ∷ phrase (bytes "SQL_LOG_UPDATE")
    ∷ phrase (bytes "SQL_LOW_PRIORITY_UPDATES")
    ∷ phrase (bytes "SQL_MAX_JOIN_SIZE")
    ∷ phrase (bytes "SQL_NO_CACHE")
    ∷ phrase (bytes "SQL_QUOTE_SHOW_CREATE")
    ∷ phrase (bytes "SQL_SAFE_UPDATES")
    ∷ phrase (bytes "SQL_SELECT_LIMIT")
    ∷ phrase (bytes "SQL_SLAVE_SKIP_COUNTER")
    ∷ phrase (bytes "SQL_SMALL_RESULT")
    ∷ phrase (bytes "SQL_WARNINGS")
    ∷ phrase (bytes "START")
    ∷ phrase (bytes "STARTING")
    ∷ phrase (bytes "STATUS")
    ∷ phrase (bytes "STOP")
    ∷ phrase (bytes "STORAGE")
    ∷ phrase (bytes "STRAIGHT_JOIN")
    ∷ phrase (bytes "STRING")
    ∷ phrase (bytes "STRIPED")
    ∷ phrase (bytes "SUPER")
    ∷ []

-- `get_plain_reserved_one_token`, T
unfoldable pub plain_t : List Phrase
plain_t =
    phrase (bytes "TABLE")
    ∷ phrase (bytes "TABLES")
    ∷ phrase (bytes "TEMPORARY")
    ∷ phrase (bytes "TERMINATED")
    ∷ phrase (bytes "THEN")
    ∷ phrase (bytes "TO")
    ∷ phrase (bytes "TRAILING")
    ∷ phrase (bytes "TRANSACTIONAL")
    ∷ phrase (bytes "TRUE")
    ∷ phrase (bytes "TRUNCATE")
    ∷ phrase (bytes "TYPE")
    ∷ phrase (bytes "TYPES")
    ∷ phrase (bytes "TBLPROPERTIES")
    ∷ []

-- `get_plain_reserved_one_token`, U
unfoldable pub plain_u : List Phrase
plain_u =
    phrase (bytes "UNCOMMITTED")
    ∷ phrase (bytes "UNIQUE")
    ∷ phrase (bytes "UNLOCK")
    ∷ phrase (bytes "UNSIGNED")
    ∷ phrase (bytes "USAGE")
    ∷ phrase (bytes "USE")
    ∷ []

-- `get_plain_reserved_one_token`, V
unfoldable pub plain_v : List Phrase
plain_v =
    phrase (bytes "VARIABLES")
    ∷ phrase (bytes "VIEW")
    ∷ []

-- `get_plain_reserved_one_token`, W
unfoldable pub plain_w : List Phrase
plain_w =
    phrase (bytes "WHEN")
    ∷ phrase (bytes "WORK")
    ∷ phrase (bytes "WRITE")
    ∷ []

-- `get_plain_reserved_one_token`, Y
unfoldable pub plain_y : List Phrase
plain_y =
    phrase (bytes "YEAR_MONTH")
    ∷ []

unfoldable pub plain_one_phrases : List Phrase
plain_one_phrases =
    plain_a ++ plain_b ++ plain_c ++ plain_d ++ plain_e ++ plain_f ++ plain_g ++ plain_h ++ plain_i ++ plain_k ++ plain_l ++ plain_m ++ plain_n ++ plain_o ++ plain_p ++ plain_q ++ plain_r ++ plain_s ++ plain_t ++ plain_u ++ plain_v ++ plain_w ++ plain_y
